use Rattle.std.proofs.Common.{ap, ◌∙◌, sym}
use Rattle.std.proofs.lemmas.Result.{err_from_is_err_and}
use Rattle.drf_core.specs.Machine.{Engine, Machine, live}
use Rattle.drf_show.specs.ShownText.{shown}
use Rattle.drf_show.proofs.Wrote.{shown_due, shown_ends, shown_forgotten, shown_unread}
use Rattle.drf_show.proofs.stream.run_show.Goals as goal

pub returns-clause-shown : goal.returns-clause-shown
returns-clause-shown g c =
    let advanced = c.in_ok-core.ensures.advanced in
    let text = c.deref.ensures.value ∙ c.in_ok-text.ensures ∙ ap (λ limits. shown c.args.form limits c.in_ok-core.core.rows) (sym c.requires.limits) in
    shown_ends c.args.form (live c.args.core) _ _ _ _ advanced.read c.deref.result.now c.write_whole.result advanced.consumed advanced.whole
    (shown_due c.args.form c.args.core c.in_ok-core.core advanced.read c.deref.result.now advanced.machine text)
    c.write_whole.ensures.ok c.write_whole.ensures.err c.write_whole.ensures.fault

pub returns-in_err-core-clause-shown : goal.returns-in_err-core-clause-shown
returns-in_err-core-clause-shown g c =
    let p = err_from_is_err_and c.from_residual.result c.from_residual.ensures.1 in
    rw (p.1, p.2) (shown_unread c.args.form (live c.args.core) _ _ Engine _ _ _ _ _ c.in_err-core.ensures.cause c.in_err-core.ensures.advanced.consumed)

pub returns-in_err-text-clause-shown : goal.returns-in_err-text-clause-shown
returns-in_err-text-clause-shown g c =
    let p = err_from_is_err_and c.from_residual-in_err-text.result c.from_residual-in_err-text.ensures.1 in
    rw (p.1, p.2) (shown_forgotten c.args.form (live c.args.core) _ _ _ _ c.in_ok-core.ensures.advanced.consumed)

pub show-requires-clause-limits : goal.show-requires-clause-limits
unfolding live
show-requires-clause-limits g c κs within = ap (λ (m : Machine). m.limits) c.in_ok-core.ensures.advanced.machine ∙ c.requires.limits
