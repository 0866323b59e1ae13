use Rattle.std.proofs.Common.{◌∙◌}
use Rattle.std.proofs.lemmas.Result.{err_from_is_err_and}
use Rattle.std.specs.List.{flat_map}
use Rattle.drf_audit.specs.AuditText.{audit_text}
use Rattle.drf_journal.specs.Audited.{agents_text}
use Rattle.drf_journal.proofs.Audits.{agents-live, agents_reported, reported-unread, reported-forgotten, reported-ends, cause-ended, flushed-still}
use Rattle.drf_journal.proofs.audit.serve_audit.Goals as goal

pub returns-in_err-take_lines-clause-audited : goal.returns-in_err-take_lines-clause-audited
returns-in_err-take_lines-clause-audited g c =
    let p = err_from_is_err_and c.from_residual.result c.from_residual.ensures.1 in
    rw (p.1, p.2) (reported-unread agents_text _ _ _ _ _ _ _ _ c.in_err-take_lines.ensures.cause c.in_err-take_lines.ensures.taken)

pub returns-in_err-take_lines-clause-cause : goal.returns-in_err-take_lines-clause-cause
returns-in_err-take_lines-clause-cause g c =
    let p = err_from_is_err_and c.from_residual.result c.from_residual.ensures.1 in
    rw (p.1, p.2, c.requires.writer.1) c.in_err-take_lines.ensures.cause

pub returns-in_err-take_lines-clause-flushed : goal.returns-in_err-take_lines-clause-flushed
returns-in_err-take_lines-clause-flushed g c = λ begun. flushed-still _ _ begun

pub returns-in_err-lines-clause-audited : goal.returns-in_err-lines-clause-audited
returns-in_err-lines-clause-audited g c =
    let p = err_from_is_err_and c.from_residual-in_err-lines.result c.from_residual-in_err-lines.ensures.1 in
    rw (p.1, p.2) (reported-forgotten agents_text _ _ _ _ _ c.in_ok-take_lines.ensures.taken)

pub returns-in_err-lines-clause-cause : goal.returns-in_err-lines-clause-cause
returns-in_err-lines-clause-cause g c =
    let p = err_from_is_err_and c.from_residual-in_err-lines.result c.from_residual-in_err-lines.ensures.1 in
    rw (p.1, p.2) (c.in_ok-take_lines.ensures.cause.0, c.requires.writer.1)

pub returns-in_err-lines-clause-flushed : goal.returns-in_err-lines-clause-flushed
returns-in_err-lines-clause-flushed g c = λ begun. flushed-still _ _ begun

pub returns-clause-audited : goal.returns-clause-audited
returns-clause-audited g c =
    reported-ends agents_text agents-live c.args.session.now.machine _ _ _ _ _ (flat_map audit_text c.deref.result.now) c.write_lines.result _
    c.in_ok-take_lines.ensures.taken
    (agents_reported _ _ (c.deref.ensures.value ∙ c.in_ok-lines.ensures)) (c.write_lines.ensures.cause c.requires.writer.1) c.write_lines.ensures.ok c.write_lines.ensures.err

pub returns-clause-cause : goal.returns-clause-cause
returns-clause-cause g c =
    cause-ended c.write_lines.result _ _ _ c.in_ok-take_lines.ensures.cause.0 (c.write_lines.ensures.cause c.requires.writer.1)
