-- Thousandths satisfy what a type of amounts must satisfy.
use Rattle.std.proofs.Common.{arith}
use Rattle.std.proofs.lemmas.Grind.{common_steps}
use Rattle.drf_amount.specs.Algebra.{AlgebraLaws}
use Rattle.drf_amount.specs.Scalar.{IsScalar, scalar_join, scalar_refusal}

pub scalar_laws : AlgebraLaws IsScalar 0 scalar_join scalar_refusal (λ thousandths. thousandths)
scalar_laws = record {
  empty_given = omega arith;
  join_given = λ a b c _ _ joined. grind (arith, common_steps);
  commutative = λ a b _ _. grind (arith, common_steps);
  associative = λ a b c _ _ _. grind (arith, common_steps);
  cancellative = λ a b c whole _ _ _ first second. grind (arith, common_steps);
  neutral = λ a given. grind (arith, common_steps);
  amount_adds = λ a b c _ _ joined. grind (arith, common_steps);
  amount_zero = λ a _. (λ zero. zero, λ empty. empty);
  refused = λ a b _ _. grind (arith, common_steps);
  refusals = λ a b _ _. grind (arith, common_steps);
}
