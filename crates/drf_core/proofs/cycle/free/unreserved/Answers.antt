use Rattle.std.proofs.Common.{◌≡◌, ◌+◌, ◌∷◌, [], ℕ, List, true, drop, sym, ap, subst, arith}
use Rattle.std.proofs.lemmas.List.{drop_all, drop_more}
use Rattle.std.proofs.lemmas.List.Elements.{All-get_or}
use Rattle.drf_role.specs.Text.{Text}
use Rattle.drf_bundle.specs.Bundle.{IsBundle, IsResource, same_key}
use Rattle.drf_bundle.specs.Value.{Thousandths}
use Rattle.drf_bundle.specs.laws.KeyLaws.{where-cons}
use Rattle.drf_bundle.specs.declared.resource.Resource.{Resource}
use Rattle.drf_rows.specs.Quota.{unreserved_in}
use Rattle.drf_row_laws.proofs.QuotaLaws.{parts_le}
use Rattle.drf_core.proofs.cycle.free.unreserved.Goals.{After-unreserved_one-sum}
use Rattle.drf_core.proofs.cycle.free.unreserved.Goals as goal

-- the rest of the list begins with the resource that is read
left : (c : After-unreserved_one-sum) → let i : ℕ = c.loop-resource.resource-index in
    let rs : List Resource = c.entries-resource-items.result.now in
    unreserved_in c.args.label.now (drop i rs) ≡ c.unreserved_one-sum.result + unreserved_in c.args.label.now (drop (i + 1) rs)
left c =
    let i = c.loop-resource.resource-index in
    let rs = c.entries-resource-items.result.now in
    let r = c.resource-item.result in
    let label : Text = c.args.label.now in
    let all = ap (unreserved_in label) (drop_more rs i r c.loop-resource-test.true) in
    let read = ap (λ (x : Resource). unreserved_in label (x ∷ drop (i + 1) rs)) (sym c.resource-item.is) in
    omega (arith, all, read, where-cons (same_key (label, [])) Thousandths r (drop (i + 1) rs), c.unreserved_one-sum.ensures)

pub loop-resource-init : goal.loop-resource-init
loop-resource-init c = omega (arith, ap (unreserved_in c.args.label.now) c.entries-resource-items.ensures.value)

pub unreserved_one-sum-requires : goal.unreserved_one-sum-requires
unreserved_one-sum-requires c =
    let rs = c.entries-resource-items.result.now in
    let bundle = subst IsBundle (sym c.entries-resource-items.ensures.value) c.entries-resource-items.ensures.bundle in
    subst IsResource (sym c.resource-item.is) (All-get_or IsResource rs c.loop-resource.resource-index c.resource-item.result c.loop-resource-test.true bundle.each)

-- the unreserved amount is at most the amount in all
pub overflow_add-sum : goal.overflow_add-sum
overflow_add-sum c =
    let label : Text = c.args.label.now in
    let bundle = c.entries-resource-items.ensures.bundle in
    omega (arith, c.loop-resource.invariant, left c, parts_le (λ p. true) label c.args.free.now, bundle.fits.at_most label Thousandths)

pub loop-resource-preserved : goal.loop-resource-preserved
loop-resource-preserved c = omega (arith, c.loop-resource.invariant, left c)

pub returns : goal.returns
returns c =
    let nothing = drop_all c.loop-resource.resource-index c.entries-resource-items.result.now c.loop-resource-test.false in
    omega (arith, c.loop-resource.invariant, ap (unreserved_in c.args.label.now) nothing)
