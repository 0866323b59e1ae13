use Rattle.std.proofs.Common.{◌≡◌, take}
use Rattle.drf_bundle.specs.Bundle.{part_for}
use Rattle.drf_bundle.proofs.bundle.Bundle.part_for.Given as goal

abbrev pub invariant-loop-resource : goal.invariant-loop-resource
invariant-loop-resource l = l.part.items ≡ part_for l.role (take l.resource-index l.resources)
