use Rattle.std.proofs.Common.{◌∙◌}
use Rattle.std.proofs.lemmas.Result.{err_from_is_err_and}
use Rattle.drf_journal.specs.Audited.{cycle_text}
use Rattle.drf_journal.proofs.Audits.{cycle-live, reported-unread, reported-forgotten, reported-ends, cause-ended, cause-written, flushed-still, flushed-written}
use Rattle.drf_journal.proofs.explain.serve_explain.Goals as goal

pub returns-in_err-take_lines-clause-explained : goal.returns-in_err-take_lines-clause-explained
returns-in_err-take_lines-clause-explained g c =
    let p = err_from_is_err_and c.from_residual.result c.from_residual.ensures.1 in
    rw (p.1, p.2) (reported-unread (cycle_text c.args.at) _ _ _ _ _ _ _ _ c.in_err-take_lines.ensures.cause c.in_err-take_lines.ensures.taken)

pub returns-in_err-take_lines-clause-cause : goal.returns-in_err-take_lines-clause-cause
returns-in_err-take_lines-clause-cause g c =
    let p = err_from_is_err_and c.from_residual.result c.from_residual.ensures.1 in
    rw (p.1, p.2, c.requires.writer.1) c.in_err-take_lines.ensures.cause

pub returns-in_err-take_lines-clause-flushed : goal.returns-in_err-take_lines-clause-flushed
returns-in_err-take_lines-clause-flushed g c = λ begun. flushed-still _ _ begun

pub returns-in_err-text-clause-explained : goal.returns-in_err-text-clause-explained
returns-in_err-text-clause-explained g c =
    let p = err_from_is_err_and c.from_residual-in_err-text.result c.from_residual-in_err-text.ensures.1 in
    rw (p.1, p.2) (reported-forgotten (cycle_text c.args.at) _ _ _ _ _ c.in_ok-take_lines.ensures.taken)

pub returns-in_err-text-clause-cause : goal.returns-in_err-text-clause-cause
returns-in_err-text-clause-cause g c =
    let p = err_from_is_err_and c.from_residual-in_err-text.result c.from_residual-in_err-text.ensures.1 in
    rw (p.1, p.2) (c.in_ok-take_lines.ensures.cause.0, c.requires.writer.1)

pub returns-in_err-text-clause-flushed : goal.returns-in_err-text-clause-flushed
returns-in_err-text-clause-flushed g c = λ begun. flushed-still _ _ begun

pub returns-clause-explained : goal.returns-clause-explained
returns-clause-explained g c =
    reported-ends (cycle_text c.args.at) (cycle-live c.args.at) c.args.session.now.machine _ _ _ _ _ c.deref.result.now c.write_whole.result _
    c.in_ok-take_lines.ensures.taken
    (c.deref.ensures.value ∙ c.in_ok-text.ensures) (cause-written c.write_whole.result _ (c.write_whole.ensures.failed c.requires.writer.1) c.write_whole.ensures.fault)
    c.write_whole.ensures.ok c.write_whole.ensures.err

pub returns-clause-cause : goal.returns-clause-cause
returns-clause-cause g c =
    cause-ended c.write_whole.result _ _ _ c.in_ok-take_lines.ensures.cause.0
    (cause-written c.write_whole.result _ (c.write_whole.ensures.failed c.requires.writer.1) c.write_whole.ensures.fault)

pub returns-clause-flushed : goal.returns-clause-flushed
returns-clause-flushed g c = λ begun. flushed-written c.write_whole.result _ c.write_whole.ensures.fault c.write_whole.ensures.flushed
