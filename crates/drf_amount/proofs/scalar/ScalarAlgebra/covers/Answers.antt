use Rattle.std.proofs.Common.{ℕ, ◌-◌, ◌≤◌, arith, rules}
use Rattle.std.proofs.lemmas.Grind.{common_steps}
use Rattle.drf_amount.specs.Algebra.{Covers}
use Rattle.drf_amount.specs.Scalar.{IsScalar, scalar_join}
use Rattle.drf_amount.proofs.scalar.ScalarAlgebra.covers.Goals as goal

-- a smaller number is covered: the rest is the difference
Covers-difference : (whole part : ℕ) → IsScalar whole → part ≤ whole → Covers IsScalar scalar_join whole part
Covers-difference whole part given within = record {
  rest = whole - part;
  is_rest = record { given = omega arith; joined = grind (arith, common_steps) };
}

-- only a smaller or equal number is covered
within : (whole part : ℕ) → Covers IsScalar scalar_join whole part → part ≤ whole
within whole part covers = let joined = covers.is_rest.joined in grind (arith, common_steps)

pub returns-clause-covers : goal.returns-clause-covers
returns-clause-covers c = search (rules, Covers-difference, within)
