use Rattle.std.proofs.lemmas.Result.{err_from_is_err_and}
use Rattle.drf_audit.specs.AuditText.{audit_text}
use Rattle.drf_journal.proofs.Audits.{wrote-begins, wrote-element, wrote-element-prefix, wrote-all}
use Rattle.drf_journal.proofs.audit.write_lines.Goals as goal

pub loop-line-init : goal.loop-line-init
loop-line-init g c = record { wrote = wrote-begins _ _; sound = λ e. e; flushed = λ e. e }

pub loop-line-preserved : goal.loop-line-preserved
loop-line-preserved g c = record {
  wrote = wrote-element audit_text c.args.lines.now c.loop-line.line-index c.line-item.result c.loop-line-test.true c.line-item.is
      _ _ _ _ c.loop-line.invariant.wrote c.in_ok-write_line.ensures.ok;
  sound = λ sound. (c.in_ok-write_line.ensures.cause (c.loop-line.invariant.sound sound)).1;
  flushed = λ begun. c.in_ok-write_line.ensures.flushed (c.loop-line.invariant.flushed begun);
}

pub returns-in_err-write_line-clause-err : goal.returns-in_err-write_line-clause-err
returns-in_err-write_line-clause-err g c =
    let p = err_from_is_err_and c.from_residual.result c.from_residual.ensures.1 in
    rw p.1 (wrote-element-prefix audit_text c.args.lines.now c.loop-line.line-index c.line-item.result c.loop-line-test.true c.line-item.is
    _ _ _ _ c.loop-line.invariant.wrote c.in_err-write_line.ensures.err)

pub returns-clause-ok : goal.returns-clause-ok
returns-clause-ok g c = wrote-all audit_text c.args.lines.now c.loop-line.line-index _ _ _ c.loop-line-test.false c.loop-line.invariant.wrote
