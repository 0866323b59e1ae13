use Rattle.std.proofs.Common.{◌≡◌, ◌<◌, List, length, get_or, sym, ap, subst, arith}
use Rattle.std.proofs.lemmas.List.{drop_all}
use Rattle.drf_bundle.specs.Bundle.{IsBundle}
use Rattle.drf_bundle.specs.declared.resource.Resource.{Resource}
use Rattle.drf_rows.specs.Quota.{unreserved_in}
use Rattle.drf_gates.proofs.quota.Resources.{sum_fits, sum_more, resource_at}
use Rattle.drf_gates.proofs.quota.consumed.unreserved.Goals as goal

pub add_unreserved-requires-clause-right : goal.add_unreserved-requires-clause-right
add_unreserved-requires-clause-right c =
    resource_at c.entries-resource-items.result.now c.loop-resource.resource-index c.resource-item.result
    (subst IsBundle (sym c.entries-resource-items.ensures.value) c.entries-resource-items.ensures.bundle)
    c.loop-resource-test.true c.resource-item.is

pub add_unreserved-requires-clause-fits : goal.add_unreserved-requires-clause-fits
add_unreserved-requires-clause-fits c =
    let same = c.entries-resource-items.ensures.value in
    let i = c.loop-resource.resource-index in
    let r = c.resource-item.result in
    sum_fits c.args.bundle.now c.entries-resource-items.ensures.bundle c.loop-resource.sum i r
    (subst (λ (rs : List Resource). i < length rs) same c.loop-resource-test.true)
    (subst (λ (rs : List Resource). r ≡ get_or rs i r) same c.resource-item.is)
    c.loop-resource.invariant

pub loop-resource-preserved : goal.loop-resource-preserved
loop-resource-preserved c =
    let same = c.entries-resource-items.ensures.value in
    let i = c.loop-resource.resource-index in
    let r = c.resource-item.result in
    sum_more c.args.bundle.now c.entries-resource-items.ensures.bundle c.loop-resource.sum i r
    (subst (λ (rs : List Resource). i < length rs) same c.loop-resource-test.true)
    (subst (λ (rs : List Resource). r ≡ get_or rs i r) same c.resource-item.is)
    c.loop-resource.invariant c.add_unreserved.new.sum c.in_ok-add_unreserved.ensures

pub returns : goal.returns
returns c = λ label.
    let left = drop_all c.loop-resource.resource-index c.args.bundle.now
    (omega (arith, ap length c.entries-resource-items.ensures.value, c.loop-resource-test.false)) in
    omega (
      arith,
      c.loop-resource.invariant label,
      ap (λ (rs : List Resource). unreserved_in label rs) left,
    )
