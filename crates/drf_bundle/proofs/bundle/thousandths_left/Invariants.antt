use Rattle.std.proofs.Common.{◌≡◌, drop, map}
use Rattle.drf_bundle.specs.Bundle.{key_of}
use Rattle.drf_bundle.specs.Taken.{less_all}
use Rattle.drf_bundle.specs.declared.value.Value.TheVariants.{Scalar}
use Rattle.drf_bundle.proofs.bundle.thousandths_left.Given as goal

-- what the remaining parts leave of the rest so far is what all parts leave
abbrev pub invariant-loop-part : goal.invariant-loop-part
invariant-loop-part l = less_all (map (λ p. p.1) (drop l.part-index l.parts)) (key_of l.resource) (Scalar l.left) ≡ less_all (map (λ p. p.1) l.parts) (key_of l.resource) (Scalar l.thousandths)
