use Rattle.std.proofs.Common.{◌≡◌, ◌<◌, List, length, get_or, sym, ap, subst, ◌∙◌, cond, arith}
use Rattle.std.proofs.lemmas.List.{drop_all}
use Rattle.drf_role.specs.Path.{same_path}
use Rattle.drf_role.specs.PathLaws.{same_path_itself}
use Rattle.drf_bundle.specs.Bundle.{IsBundle}
use Rattle.drf_bundle.specs.declared.resource.Resource.{Resource}
use Rattle.drf_rows.specs.Quota.{unreserved_in}
use Rattle.drf_gates.specs.quota.Allowance.{unreserved_one}
use Rattle.drf_gates.proofs.quota.Resources.{first_unreserved, nothing_by, released_done, released_fits, released_more, resource_at, unreserved_by}
use Rattle.drf_gates.proofs.quota.consumption.Consumption.release_parts.Goals as goal

pub release_one-requires-clause-right : goal.release_one-requires-clause-right
release_one-requires-clause-right c =
    resource_at c.entries-resource-items.result.now c.loop-resource.resource-index c.resource-item.result
    (subst IsBundle (sym c.entries-resource-items.ensures.value) c.entries-resource-items.ensures.bundle)
    c.loop-resource-test.true c.resource-item.is

pub release_one-requires-clause-fits : goal.release_one-requires-clause-fits
release_one-requires-clause-fits c = λ label.
    let same = c.entries-resource-items.ensures.value in
    let i = c.loop-resource.resource-index in
    let r = c.resource-item.result in
    let role = c.args.role.now in
    let bundle = c.args.bundle.now in
    let itself = same_path_itself role in
    omega (
      arith,
      released_fits c.args.self.now c.loop-resource.self (unreserved_by role bundle) _ _ _ c.loop-resource.invariant
          (first_unreserved role bundle i r
          (subst (λ (rs : List Resource). i < length rs) same c.loop-resource-test.true)
          (subst (λ (rs : List Resource). r ≡ get_or rs i r) same c.resource-item.is))
          (same_path role) label
          (omega (arith, c.requires label, ap (λ b. cond b (unreserved_in label bundle) 0) itself)),
      ap (λ b. cond b (unreserved_one label r) 0) itself,
    )

pub loop-resource-preserved : goal.loop-resource-preserved
loop-resource-preserved c =
    let same = c.entries-resource-items.ensures.value in
    let i = c.loop-resource.resource-index in
    let r = c.resource-item.result in
    let role = c.args.role.now in
    let bundle = c.args.bundle.now in
    released_more c.args.self.now c.loop-resource.self (unreserved_by role bundle) _ _ _ c.loop-resource.invariant
    (first_unreserved role bundle i r
    (subst (λ (rs : List Resource). i < length rs) same c.loop-resource-test.true)
    (subst (λ (rs : List Resource). r ≡ get_or rs i r) same c.resource-item.is))
    c.release_one.new.self c.release_one.ensures

pub returns : goal.returns
returns c =
    let left = drop_all c.loop-resource.resource-index c.args.bundle.now
    (omega (arith, ap length c.entries-resource-items.ensures.value, c.loop-resource-test.false)) in
    released_done c.args.self.now c.loop-resource.self (unreserved_by c.args.role.now c.args.bundle.now) _ c.loop-resource.invariant
    (λ test label. ap (λ (rs : List Resource). unreserved_by c.args.role.now rs test label) left ∙ nothing_by (test c.args.role.now))
