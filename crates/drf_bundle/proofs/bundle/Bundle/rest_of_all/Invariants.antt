use Rattle.std.proofs.Common.{◌≡◌, map, take}
use Rattle.drf_bundle.specs.Bundle.{filled_of}
use Rattle.drf_bundle.proofs.LeftLemmas.{left_after}
use Rattle.drf_bundle.proofs.bundle.Bundle.rest_of_all.Given as goal

abbrev pub invariant-loop-i : goal.invariant-loop-i
invariant-loop-i l = l.left.items ≡ filled_of (map (left_after (map (λ p. p.1) l.parts)) (take l.i l.resource-items))
