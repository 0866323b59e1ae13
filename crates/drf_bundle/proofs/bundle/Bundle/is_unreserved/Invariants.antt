use Rattle.std.proofs.Common.{◌≡◌, true, take}
use Rattle.drf_bundle.specs.Bundle.{is_unreserved}
use Rattle.drf_bundle.proofs.bundle.Bundle.is_unreserved.Given as goal

-- each so far is unreserved
abbrev pub invariant-loop-resource : goal.invariant-loop-resource
invariant-loop-resource l = is_unreserved (take l.resource-index l.resource-items) ≡ true
