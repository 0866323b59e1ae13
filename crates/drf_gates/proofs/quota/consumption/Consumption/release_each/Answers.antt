use Rattle.std.proofs.Common.{ap}
use Rattle.std.proofs.lemmas.List.{drop_all}
use Rattle.std.proofs.Common.{List}
use Rattle.drf_role.specs.Path.{same_path}
use Rattle.drf_bundle.specs.declared.resource.Resource.{Resource}
use Rattle.drf_gates.proofs.quota.Resources.{first_reserved, released_done, released_fits, released_more, reserved_by}
use Rattle.drf_gates.proofs.quota.consumption.Consumption.release_each.Goals as goal

pub release_resource-requires-clause-fits : goal.release_resource-requires-clause-fits
release_resource-requires-clause-fits c = λ role label.
    let rs = c.args.resources.now in
    released_fits c.args.self.now c.loop-resource.self (reserved_by rs) _ _ _ c.loop-resource.invariant
    (first_reserved rs c.loop-resource.resource-index c.resource-item.result c.loop-resource-test.true c.resource-item.is)
    (same_path role) label (c.requires.fits role label)

pub loop-resource-preserved : goal.loop-resource-preserved
loop-resource-preserved c =
    let rs = c.args.resources.now in
    released_more c.args.self.now c.loop-resource.self (reserved_by rs) _ _ _ c.loop-resource.invariant
    (first_reserved rs c.loop-resource.resource-index c.resource-item.result c.loop-resource-test.true c.resource-item.is)
    c.release_resource.new.self c.release_resource.ensures

pub returns : goal.returns
returns c =
    let rs = c.args.resources.now in
    let left = drop_all c.loop-resource.resource-index rs c.loop-resource-test.false in
    released_done c.args.self.now c.loop-resource.self (reserved_by rs) _ c.loop-resource.invariant
    (λ test label. ap (λ (qs : List Resource). reserved_by qs test label) left)
