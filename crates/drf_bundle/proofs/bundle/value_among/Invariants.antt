use Rattle.std.proofs.Common.{◌≡◌, drop}
use Rattle.drf_bundle.specs.Bundle.{value_at, reservation}
use Rattle.drf_bundle.proofs.bundle.value_among.Given as goal

-- it is not among those so far
abbrev pub invariant-loop-resource : goal.invariant-loop-resource
invariant-loop-resource l = value_at (drop l.resource-index l.resources) (l.label, reservation l.role) ≡ value_at l.resources (l.label, reservation l.role)
