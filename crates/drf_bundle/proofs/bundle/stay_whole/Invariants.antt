use Rattle.std.proofs.Common.{◌≡◌, map, take}
use Rattle.drf_bundle.specs.Bundle.{clipped}
use Rattle.drf_bundle.proofs.bundle.stay_whole.Given as goal

-- nothing so far is cut
abbrev pub invariant-loop-resource : goal.invariant-loop-resource
invariant-loop-resource l = map (clipped l.limits) (take l.resource-index l.resources) ≡ take l.resource-index l.resources
