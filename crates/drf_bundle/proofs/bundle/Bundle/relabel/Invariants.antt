use Rattle.std.proofs.Common.{◌≡◌, take}
use Rattle.drf_bundle.specs.Bundle.{relabel}
use Rattle.drf_bundle.proofs.bundle.Bundle.relabel.Given as goal

abbrev pub invariant-loop-resource : goal.invariant-loop-resource
invariant-loop-resource l = l.moved.items ≡ relabel l.role (take l.resource-index l.resource-items)
