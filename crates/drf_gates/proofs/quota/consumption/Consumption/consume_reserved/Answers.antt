use Rattle.std.proofs.Common.{◌≡◌, ◌<◌, List, take, length, get_or, sym, ap, subst, arith}
use Rattle.std.proofs.lemmas.List.{drop_all}
use Rattle.drf_role.specs.Path.{same_path}
use Rattle.drf_bundle.specs.Bundle.{IsBundle}
use Rattle.drf_bundle.specs.declared.resource.Resource.{Resource}
use Rattle.drf_rows.specs.Quota.{reserved_in}
use Rattle.drf_gates.specs.quota.Allowance.{IsRaisedBy, Usage, used_where}
use Rattle.drf_gates.proofs.quota.Resources.{prefix_back, prefix_fits, used_fits, used_more, resource_at}
use Rattle.drf_gates.proofs.quota.consumption.Consumption.consume_reserved.Goals as goal

pub consume_resource-requires-clause-right : goal.consume_resource-requires-clause-right
consume_resource-requires-clause-right c =
    resource_at c.entries-resources.result.now c.loop-place.place c.index-resources-place.result
    (subst IsBundle (sym c.entries-resources.ensures.value) c.entries-resources.ensures.bundle)
    c.loop-place-test.true c.index-resources-place.is

pub consume_resource-requires-clause-fits : goal.consume_resource-requires-clause-fits
consume_resource-requires-clause-fits c =
    let same = c.entries-resources.ensures.value in
    let i = c.loop-place.place in
    let r = c.index-resources-place.result in
    used_fits c.args.total.now c.args.self.now c.loop-place.self i r
    (subst (λ (rs : List Resource). i < length rs) same c.loop-place-test.true)
    (subst (λ (rs : List Resource). r ≡ get_or rs i r) same c.index-resources-place.is)
    c.loop-place.invariant c.requires

pub release_each-requires-clause-fits : goal.release_each-requires-clause-fits
release_each-requires-clause-fits c = λ role label.
    omega (
      arith,
      ap (λ (rs : List Resource). reserved_in (same_path role) label (take c.loop-place.place rs)) c.entries-resources.ensures.value,
      prefix_fits c.args.total.now c.args.self.now c.loop-place.self c.loop-place.place c.loop-place.invariant (same_path role) label,
      ap (λ (us : List Usage). used_where (same_path role) us label) c.in-Err.ensures.err,
    )

pub loop-place-preserved : goal.loop-place-preserved
loop-place-preserved c =
    let same = c.entries-resources.ensures.value in
    let i = c.loop-place.place in
    let r = c.index-resources-place.result in
    used_more c.args.total.now c.args.self.now c.loop-place.self i r
    (subst (λ (rs : List Resource). i < length rs) same c.loop-place-test.true)
    (subst (λ (rs : List Resource). r ≡ get_or rs i r) same c.index-resources-place.is)
    c.loop-place.invariant c.consume_resource.new.self c.in_default.ensures.ok

pub returns-in-Err-clause-err : goal.returns-in-Err-clause-err
returns-in-Err-clause-err c =
    prefix_back c.args.total.now c.args.self.now c.loop-place.self c.loop-place.place c.loop-place.invariant c.release_each.new.self
    (subst (λ (us : List Usage). IsRaisedBy c.release_each.new.self us (λ test label. reserved_in test label (take c.loop-place.place c.args.total.now)))
    c.in-Err.ensures.err
    (subst (λ (rs : List Resource). IsRaisedBy c.release_each.new.self c.consume_resource.new.self
    (λ test label. reserved_in test label (take c.loop-place.place rs))) c.entries-resources.ensures.value c.release_each.ensures))

pub returns-clause-ok : goal.returns-clause-ok
returns-clause-ok c =
    let left = drop_all c.loop-place.place c.args.total.now
    (omega (arith, ap length c.entries-resources.ensures.value, c.loop-place-test.false)) in
    λ test label. omega (
      arith,
      c.loop-place.invariant test label,
      ap (λ (rs : List Resource). reserved_in test label rs) left,
    )
