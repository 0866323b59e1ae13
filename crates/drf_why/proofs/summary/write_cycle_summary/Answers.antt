use Rattle.std.proofs.lemmas.Result.{err_from_is_err_and}
use Rattle.drf_core.specs.Machine.{Engine, live}
use Rattle.drf_journal.proofs.Audits.{cause-ended}
use Rattle.drf_rows.specs.Step.{live_rows}
use Rattle.drf_why.specs.Asked.{summed_text}
use Rattle.drf_why.specs.Written.{output_of}
use Rattle.drf_why.proofs.Due.{due, summed_live, reported_ends, reported_unread}
use Rattle.drf_why.proofs.summary.write_cycle_summary.Goals as goal

pub returns-in_err-core-clause-reported : goal.returns-in_err-core-clause-reported
returns-in_err-core-clause-reported g c =
    let p = err_from_is_err_and c.from_residual.result c.from_residual.ensures.1 in
    rw (p.1, p.2) (reported_unread (summed_text c.args.at) (live c.args.core) _ _ Engine _ _ _ _ _ c.in_err-core.ensures.cause
    c.in_err-core.ensures.advanced.consumed)

pub returns-clause-reported : goal.returns-clause-reported
returns-clause-reported g c =
    let bytes = g.W.Write.contents in
    let tell = summed_text c.args.at in
    let advanced = c.in_ok-core.ensures.advanced in
    reported_ends tell (live c.args.core) _ _ (output_of bytes c.args.writer.now) (output_of bytes c.write_summary.new.writer) advanced.read
    (tell (live_rows c.in_ok-core.core.rows)) c.write_summary.result advanced.consumed advanced.whole
    (due tell (summed_live c.args.at) c.args.core c.in_ok-core.core advanced.read advanced.machine)
    c.requires.writer.1 c.write_summary.ensures

pub returns-clause-cause : goal.returns-clause-cause
returns-clause-cause g c =
    cause-ended c.write_summary.result _ _ _ c.in_ok-core.ensures.cause.0 (c.write_summary.ensures.cause c.requires.writer.1)

pub returns-clause-flushed : goal.returns-clause-flushed
returns-clause-flushed g c = λ begun. c.write_summary.ensures.sent begun
