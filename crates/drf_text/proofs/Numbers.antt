-- Numbers as digits.
use Rattle.std.proofs.Common.{◌≡◌, ◌⊎◌, ℕ, ◌+◌, ◌*◌, ◌^◌, ◌<◌, ◌≤◌, Bool, true, false, cond, ltb, List, [], ◌∷◌, ◌&&◌, length, Result, Err, inl, inr, refl, sym, subst, ◌∙◌, arith, take_all}
use Rattle.std.proofs.lemmas.Bool.{cases_Bool, lt-ltb, ltb-true}
use Rattle.std.proofs.lemmas.Bool.Decides.{nat_tests}
use Rattle.std.proofs.Math.ListN.{drop_of_length-le}
use Rattle.std.specs.List.{list_any, position_or_len, before_first, after_first}
use Rattle.std.specs.Result.{OkIff}
use Rattle.std.specs.Str.Parse.{digits_value}
use Rattle.drf_text.specs.Number.{is_point, are_digits, is_number, rounded, thousandths_of, whole_of, decimals_of, small_or_fault, number_of}
use Rattle.drf_text.proofs.Names.{TextFault, BadNumber, TooLarge}

-- a number that is not below 2^64 is too large
pub too_large : (n : ℕ) → 2 ^ 64 ≤ n → Err TooLarge ≡ small_or_fault n
too_large n large = elim (cases_Bool (ltb n (2 ^ 64))) [
  | inl small ↦ absurd (omega (arith, ltb-true n (2 ^ 64) small))
  | inr not_small ↦ rw not_small refl
]

pub large_from_parse : {E P : Type 0} (r : Result ℕ E) (e : E) (v : ℕ) → r ≡ Err e → OkIff r P v → ((v < 2 ^ 64) → P)
    → 2 ^ 64 ≤ v
large_from_parse {E} {P} r e v is parsed fits = by (cases_Bool (ltb v (2 ^ 64))) (subst (λ (x : Result ℕ E). OkIff x P v) is parsed)
  where
    by : (ltb v (2 ^ 64) ≡ true) ⊎ (ltb v (2 ^ 64) ≡ false) → (P → ⊥) → 2 ^ 64 ≤ v
    by (inl small) none = absurd (none (fits (ltb-true v (2 ^ 64) small)))
    by (inr large) none = grind (arith, nat_tests, large)

-- whether some element passes the test, given the first index that does
any_at_cases : {X : Type 0} (p : X → Bool) (x : X) (xs : List X) (b : Bool) → p x ≡ b
    → list_any p xs ≡ ltb (position_or_len p xs) (length xs)
    → list_any p (x ∷ xs) ≡ ltb (position_or_len p (x ∷ xs)) (length (x ∷ xs))
any_at_cases p x xs true e rest = rw e (grind (arith, nat_tests))
any_at_cases p x xs false e rest = rw (e, rest) (grind (arith, nat_tests))

pub any_at : {X : Type 0} (p : X → Bool) (xs : List X) → list_any p xs ≡ ltb (position_or_len p xs) (length xs)
any_at p [] = refl
any_at p (x ∷ xs) = any_at_cases p x xs (p x) refl (any_at p xs)

-- if no element passes, all elements come before the first that does
pub all_before : {X : Type 0} (p : X → Bool) (xs : List X) → position_or_len p xs ≡ length xs
    → (list_any p xs ≡ false) × (before_first p xs ≡ xs) × (after_first p xs ≡ [])
all_before p xs none =
    (any_at p xs ∙ rw none (grind (arith, nat_tests)), take_all (position_or_len p xs) xs (omega arith), drop_of_length-le xs (omega arith))

and_true : (b : Bool) → (b && true) ≡ b
and_true true = refl
and_true false = refl

pub number_without_point : (text : List ℕ) (r : Result ℕ TextFault) → position_or_len is_point text ≡ length text
    → r ≡ cond (are_digits text) (small_or_fault (digits_value 10 text * 1000)) (Err BadNumber) → r ≡ number_of text
unfolding number_of
number_without_point text r none is =
    let parts = all_before is_point text none in
    let value : thousandths_of text ≡ digits_value 10 text * 1000 = rw (parts.1, parts.2) (omega arith) in
    let number : is_number text ≡ are_digits text = rw (parts.0, parts.1) (and_true (are_digits text)) in
    is ∙ sym (λ i. cond (number i) (small_or_fault (value i)) (Err BadNumber))

pub number_with_point : (text whole decimals : List ℕ) (r : Result ℕ TextFault)
    → position_or_len is_point text < length text → whole ≡ whole_of text → decimals ≡ decimals_of text
    → r ≡ cond (are_digits whole && are_digits decimals) (small_or_fault (digits_value 10 whole * 1000 + rounded decimals)) (Err BadNumber) → r ≡ number_of text
unfolding number_of
number_with_point text whole decimals r some first second is =
    let point : list_any is_point text ≡ true = any_at is_point text ∙ lt-ltb _ _ some in
    let value : thousandths_of text ≡ digits_value 10 whole * 1000 + rounded decimals = rw (first, second) refl in
    let number : is_number text ≡ (are_digits whole && are_digits decimals) = rw (first, second, point) refl in
    is ∙ sym (λ i. cond (number i) (small_or_fault (value i)) (Err BadNumber))
