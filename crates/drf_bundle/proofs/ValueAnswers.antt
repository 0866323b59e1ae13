-- The results for the kinds of values, stated for values.
use Rattle.std.specs.Prelude.{◌≡◌, ◌↔◌, ℕ, ◌+◌, ◌-◌, ◌<◌, ◌≤◌, ◌^◌, Bool, IsTrue, Some, nat_le}
use Rattle.std.proofs.Common.{arith}
use Rattle.std.specs.declared.cmp.Ordering.{Ordering}
use Rattle.std.specs.Cmp.{IsTotalOrder, both_ways}
use Rattle.std.specs.FinSet as set
use Rattle.std.proofs.lemmas.Grind.{common_steps}
use Rattle.std.proofs.lemmas.Bool.{leb-true, le-leb}
use Rattle.drf_amount.specs.Algebra.{Covers}
use Rattle.drf_amount.specs.Scalar.{IsScalar, scalar_join}
use Rattle.drf_kinds.specs.Sets.{IsSetOf, set_join}
use Rattle.drf_kinds.specs.SetLaws as sets

sum_of_join : (a b c : ℕ) → scalar_join a b ≡ Some c → a + b ≡ c
sum_of_join a b c joined = grind (arith, common_steps)

join_of_sum : (a b : ℕ) → b ≤ a → a < 2 ^ 64 → scalar_join (a - b) b ≡ Some a
join_of_sum a b below small = grind (arith, common_steps)

pub scalar_covers : (a b : ℕ) (t : Bool) → IsScalar a → (IsTrue t ↔ Covers IsScalar scalar_join a b) → t ≡ nat_le b a
scalar_covers a b t given is =
    both_ways t (nat_le b a)
    (λ yes. let some = is.0 yes in le-leb b a (omega (arith, sum_of_join some.rest b a some.is_rest.joined)))
    (λ below. is.1 (record { rest = a - b; is_rest = record { given = omega (arith, given); joined = join_of_sum a b (leb-true b a below) given } }))

pub set_covers : {K : Type 0} {R : K → K → Ordering} (o : IsTotalOrder R) (same : set.IsAntisymmetric R) (P : K → Type 0) (a b : set.FinSet R) (t : Bool)
    → IsSetOf P a → (IsTrue t ↔ Covers (IsSetOf P) set_join a b) → t ≡ set.is_subset b a
set_covers o same P a b t given is =
    both_ways t (set.is_subset b a) (λ yes. sets.subset_of_rest o same P a b (is.0 yes)) (λ within. is.1 (sets.covers_subset o same P a b given within))

pub empty_answer : {A B C : Type 0} → (A ↔ B) → (C ↔ B) → C ↔ A
empty_answer amount is = (λ yes. amount.1 (is.0 yes), λ zero. is.1 (amount.0 zero))
