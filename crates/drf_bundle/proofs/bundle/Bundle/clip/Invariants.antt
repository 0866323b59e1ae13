use Rattle.std.proofs.Common.{◌≡◌, take}
use Rattle.drf_bundle.specs.Bundle.{clip}
use Rattle.drf_bundle.proofs.bundle.Bundle.clip.Given as goal

abbrev pub invariant-loop-resource : goal.invariant-loop-resource
invariant-loop-resource l = l.part.items ≡ clip l.limits (take l.resource-index l.resources)
