-- Theorems about the digits of written numbers and the decimals of written amounts.
use Rattle.std.proofs.Common.{◌≡◌, ◌≢◌, ℕ, ◌+◌, ◌/◌, ◌%◌, ◌^◌, ◌<◌, zero, suc, Bool, true, false, cond, eqb, ◌&&◌, List, [], ◌∷◌, decimal, refl, arith, rules}
use Rattle.std.proofs.lemmas.Bool.{and_from, eq-eqb, ne_eqb, le-leb}
use Rattle.std.proofs.lemmas.Fmt.{digits_decimal}
use Rattle.std.proofs.lemmas.Str.Parse.{IsNumeralModel, numerals_by_value}
use Rattle.std.specs.Char.{is_ascii_digit}
use Rattle.std.specs.Prelude.{IsTrue}
use Rattle.std.specs.List.{list_all}
use Rattle.std.specs.Str.Parse.{digits_value}
use Rattle.drf_role.specs.Text.{Text}
use Rattle.drf_text.specs.Number.{are_digits, rounded}
use Rattle.drf_text.specs.Written.{without_last_zeros, decimals_text}

-- ---- digits

pub numerals : IsNumeralModel (λ ds. list_all is_ascii_digit ds ≡ true) (digits_value 10)
numerals = numerals_by_value _ (search rules)

pub digits_of : (n : ℕ) → n < 2 ^ 64 → IsTrue (list_all is_ascii_digit (decimal n))
digits_of n small = digits_decimal numerals n small

digit_is : (d : ℕ) → d < 10 → is_ascii_digit (48 + d) ≡ true
digit_is d small = and_from _ _ (le-leb 48 (48 + d) (omega arith)) (le-leb (48 + d) 57 (omega arith))

-- ---- decimals

-- three digits without trailing zeros, given which of them are zeros
trimmed : Bool → Bool → Bool → ℕ → ℕ → ℕ → List ℕ
trimmed p q r a b d = cond (p && (q && (r && true))) [] (a ∷ cond (q && (r && true)) [] (b ∷ cond (r && true) [] (d ∷ [])))

by_tests : (a b d : ℕ) → without_last_zeros (a ∷ b ∷ d ∷ []) ≡ trimmed (eqb a 48) (eqb b 48) (eqb d 48) a b d
unfolding trimmed
by_tests a b d = refl

three : (p q : Bool) (a b d : ℕ) → trimmed p q false a b d ≡ a ∷ b ∷ d ∷ []
unfolding trimmed
three true true a b d = refl
three true false a b d = refl
three false true a b d = refl
three false false a b d = refl

two : (p : Bool) (a b d : ℕ) → trimmed p false true a b d ≡ a ∷ b ∷ []
unfolding trimmed
two true a b d = refl
two false a b d = refl

one : (a b d : ℕ) → trimmed false true true a b d ≡ a ∷ []
unfolding trimmed
one a b d = refl

pub decimals_none : (n : ℕ) → n ≡ 0 → decimals_text n ≡ []
unfolding decimals_text
decimals_none n e = rw e

pub decimals_one : (n : ℕ) → (n ≡ 0 → ⊥) → n % 100 ≡ 0 → decimals_text n ≡ 46 ∷ (48 + n / 100) ∷ []
unfolding decimals_text
decimals_one n some e =
    let first : eqb (48 + n / 100) 48 ≡ false = ne_eqb _ _ (λ h. some (omega arith)) in
    let second : eqb (48 + n / 10 % 10) 48 ≡ true = eq-eqb _ _ (omega arith) in
    let third : eqb (48 + n % 10) 48 ≡ true = eq-eqb _ _ (omega arith) in
    rw (ne_eqb n 0 some, by_tests, first, second, third, one)

pub decimals_two : (n : ℕ) → (n % 100 ≡ 0 → ⊥) → n % 10 ≡ 0 → decimals_text n ≡ 46 ∷ (48 + n / 100) ∷ (48 + n / 10 % 10) ∷ []
unfolding decimals_text
decimals_two n some e =
    let second : eqb (48 + n / 10 % 10) 48 ≡ false = ne_eqb _ _ (λ h. some (omega arith)) in
    let third : eqb (48 + n % 10) 48 ≡ true = eq-eqb _ _ (omega arith) in
    rw (ne_eqb n 0 (λ h. some (omega arith)), by_tests, second, third, two)

pub decimals_three : (n : ℕ) → (n % 10 ≡ 0 → ⊥) → decimals_text n ≡ 46 ∷ (48 + n / 100) ∷ (48 + n / 10 % 10) ∷ (48 + n % 10) ∷ []
unfolding decimals_text
decimals_three n some =
    let third : eqb (48 + n % 10) 48 ≡ false = ne_eqb _ _ (λ h. some (omega arith)) in
    rw (ne_eqb n 0 (λ h. some (omega arith)), by_tests, third, three)

-- the text is a point followed by digits that mean n thousandths
pub record AreDecimals (n : ℕ) (text : Text) : Type 0 where
  pub digits : Text
  pub written : text ≡ 46 ∷ digits
  pub are_digits : are_digits digits ≡ true
  pub say : rounded digits ≡ n

pub decimals_said : (n : ℕ) → n ≢ 0 → n < 1000 → AreDecimals n (decimals_text n)
decimals_said n some small = by (n % 100) (n % 10) refl refl
  where
    by : (p q : ℕ) → n % 100 ≡ p → n % 10 ≡ q → AreDecimals n (decimals_text n)
    by zero q is_p is_q = record {
      digits = (48 + n / 100) ∷ [];
      written = decimals_one n some is_p;
      are_digits = and_from _ _ (digit_is (n / 100) (omega arith)) refl;
      say = omega arith;
    }
    by (suc p) zero is_p is_q = record {
      digits = (48 + n / 100) ∷ (48 + n / 10 % 10) ∷ [];
      written = decimals_two n (λ e. omega (arith, e)) is_q;
      are_digits = and_from _ _ (digit_is (n / 100) (omega arith)) (and_from _ _ (digit_is (n / 10 % 10) (omega arith)) refl);
      say = omega arith;
    }
    by (suc p) (suc q) is_p is_q = record {
      digits = (48 + n / 100) ∷ (48 + n / 10 % 10) ∷ (48 + n % 10) ∷ [];
      written = decimals_three n (λ e. omega (arith, e));
      are_digits = and_from _ _ (digit_is (n / 100) (omega arith)) (and_from _ _ (digit_is (n / 10 % 10) (omega arith)) (and_from _ _ (digit_is (n % 10) (omega arith)) refl));
      say = omega arith;
    }
