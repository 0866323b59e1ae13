use Rattle.std.proofs.Common.{◌∙◌}
use Rattle.std.specs.Prelude.{max}
use Rattle.drf_rows.specs.Filters.{holds_back}
use Rattle.drf_explain.specs.Gates.{client_at}
use Rattle.drf_explain.proofs.Found.{fold_more, fold_over, found_all}
use Rattle.drf_explain.proofs.gates.held_until.Goals as goal

pub loop-filter-preserved : goal.loop-filter-preserved
loop-filter-preserved c =
    fold_more _ _ c.args.filters.now c.loop-filter.filter-index _ _ c.filter-item.result c.loop-filter-test.true c.filter-item.is c.held_with-until.ensures
    c.loop-filter.invariant

pub returns : goal.returns
returns c =
    fold_over _ _ c.args.filters.now c.loop-filter.filter-index _ c.loop-filter-test.false c.loop-filter.invariant
    ∙ found_all (holds_back c.args.timestamp (client_at c.args.client.now) c.args.agent.now c.args.bundle.now) (λ f. f.until) max c.args.filters.now
