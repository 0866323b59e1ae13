use Rattle.std.proofs.Common.{◌≡◌, true, take}
use Rattle.std.specs.List.{list_all}
use Rattle.drf_bundle.specs.Bundle.{is_for}
use Rattle.drf_bundle.proofs.bundle.are_for.Given as goal

-- each so far is for the role
abbrev pub invariant-loop-resource : goal.invariant-loop-resource
invariant-loop-resource l = list_all (is_for l.role) (take l.resource-index l.resources) ≡ true
