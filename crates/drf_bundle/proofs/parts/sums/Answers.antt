use Rattle.std.proofs.Common.{List, drop, subst, sym, ◌+◌}
use Rattle.std.proofs.lemmas.List.{drop_all}
use Rattle.drf_bundle.specs.declared.quantities.Entry.{Entry}
use Rattle.drf_bundle.proofs.SumLemmas.{Summed, sum_start, sum_fits, sum_more}
use Rattle.drf_bundle.proofs.parts.sums.Goals as goal

pub loop-resource-init : goal.loop-resource-init
loop-resource-init c = rw c.empty-sums.ensures (sum_start c.args.resources.now c.requires)

pub add_scalar-requires : goal.add_scalar-requires
add_scalar-requires c =
    sum_fits c.args.resources.now c.loop-resource.sums c.loop-resource.resource-index c.resource-item.result c.loop-resource-test.true c.resource-item.is c.loop-resource.invariant

pub loop-resource-preserved : goal.loop-resource-preserved
loop-resource-preserved c =
    subst (λ (sums : List Entry). Summed c.args.resources.now sums (drop (c.loop-resource.resource-index + 1) c.args.resources.now)) (sym c.in_ok-add_scalar.ensures.ok)
    (sum_more c.args.resources.now c.loop-resource.sums c.loop-resource.resource-index c.resource-item.result c.loop-resource-test.true c.resource-item.is c.loop-resource.invariant)

pub returns : goal.returns
returns c = rw (drop_all _ _ c.loop-resource-test.false) at c.loop-resource.invariant.whole
