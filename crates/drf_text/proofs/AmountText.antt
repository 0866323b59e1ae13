-- Reading the written form of an amount gives that amount.
use Rattle.std.proofs.Common.{◌≡◌, ℕ, ◌+◌, ◌*◌, ◌/◌, ◌%◌, ◌^◌, ◌<◌, zero, suc, true, cond, ◌∷◌, ◌++◌, ◌&&◌, length, decimal, refl, sym, ap, subst, ◌∙◌, append-nil, arith}
use Rattle.std.proofs.lemmas.Bool.{and_from, lt-ltb}
use Rattle.std.proofs.lemmas.Fmt.{digits_value-decimal, decimal_nonempty}
use Rattle.std.specs.Char.{is_ascii_digit}
use Rattle.std.specs.Str.Parse.{digits_value}
use Rattle.drf_text.proofs.Names.{Text, is_blank, HasNone, none_of, not_that, is_amount_byte, amount_has_none, numerals, digits_of, decimals_none, decimals_said, WeightIsRead, amount_text}
use Rattle.drf_text.specs.Number.{is_point, are_digits, is_number, rounded, thousandths_of, decimals_of, number_of}
use Rattle.drf_text.proofs.CutLemmas.{not_blank, trimmed_stays, before_at, after_at, any_at_mark, position_none}
use Rattle.drf_text.proofs.Numbers.{all_before}

-- ---- digits

pub are_digits_of : (n : ℕ) → n < 2 ^ 64 → are_digits (decimal n) ≡ true
are_digits_of n small = and_from _ _ (lt-ltb 0 (length (decimal n)) (decimal_nonempty n small)) (digits_of n small)

pub value_of_digits : (n : ℕ) → n < 2 ^ 64 → digits_value 10 (decimal n) ≡ n
value_of_digits n small = digits_value-decimal numerals n small

-- ---- amounts

-- the text is a number, and its value is this amount
pub record SaysAmount (amount : ℕ) (text : Text) : Type 0 where
  pub number : is_number text ≡ true
  pub value : thousandths_of text ≡ amount

no_point : (n : ℕ) → n < 2 ^ 64 → HasNone is_point (decimal n)
no_point n small = none_of is_point is_ascii_digit (decimal n) (not_that is_ascii_digit 46 refl) (digits_of n small)

with_decimals : (n : ℕ) (digits : Text) → n < 2 ^ 64 → are_digits digits ≡ true → SaysAmount (n * 1000 + rounded digits) (decimal n ++ 46 ∷ digits)
with_decimals n digits small are =
    let none = no_point n small in
    let before = before_at is_point (decimal n) 46 digits none refl in
    let after = after_at is_point (decimal n) 46 digits none refl in
    record {
      number =
          (λ i. are_digits (before i) && cond (any_at_mark is_point (decimal n) 46 digits none refl i) (are_digits (after i)) true)
          ∙ and_from _ _ (are_digits_of n small) are;
      value = (λ i. digits_value 10 (before i) * 1000 + rounded (after i)) ∙ ap (λ v. v * 1000 + rounded digits) (value_of_digits n small);
    }

without_decimals : (n : ℕ) → n < 2 ^ 64 → SaysAmount (n * 1000) (decimal n)
without_decimals n small =
    let parts = all_before is_point (decimal n) (position_none is_point (decimal n) (no_point n small)) in
    record {
      number =
          (λ i. are_digits (parts.1 i) && cond (parts.0 i) (are_digits (decimals_of (decimal n))) true)
          ∙ and_from _ _ (are_digits_of n small) refl;
      value = (λ i. digits_value 10 (parts.1 i) * 1000 + rounded (parts.2 i)) ∙ omega (arith, value_of_digits n small);
    }

pub amount_read : (amount : ℕ) → amount < 2 ^ 64 → SaysAmount amount (amount_text amount)
amount_read amount small = by (amount % 1000) refl
  where
    by : (rest : ℕ) → amount % 1000 ≡ rest → SaysAmount amount (amount_text amount)
    by zero none =
        let text : amount_text amount ≡ decimal (amount / 1000) = ap (λ (t : Text). decimal (amount / 1000) ++ t) (decimals_none (amount % 1000) none) ∙ append-nil (decimal (amount / 1000)) in
        let whole : amount / 1000 * 1000 ≡ amount = omega (arith, none) in
        subst (λ n. SaysAmount n (amount_text amount)) whole (subst (SaysAmount (amount / 1000 * 1000)) (sym text) (without_decimals (amount / 1000) (omega arith)))
    by (suc rest) some =
        let behind = decimals_said (amount % 1000) (λ none. omega (arith, none, some)) (omega arith) in
        let text : amount_text amount ≡ decimal (amount / 1000) ++ 46 ∷ behind.digits = ap (λ (t : Text). decimal (amount / 1000) ++ t) behind.written in
        let whole : amount / 1000 * 1000 + rounded behind.digits ≡ amount = omega (arith, behind.say) in
        subst (λ n. SaysAmount n (amount_text amount)) whole
        (subst (SaysAmount (amount / 1000 * 1000 + rounded behind.digits)) (sym text) (with_decimals (amount / 1000) behind.digits (omega arith) behind.are_digits))

pub weight_read : WeightIsRead
unfolding number_of
weight_read weight small =
    let read = amount_read weight small in
    ap number_of (trimmed_stays (amount_text weight) (amount_has_none is_blank weight small (not_blank is_amount_byte refl refl)))
    ∙ rw (read.number, read.value, lt-ltb weight (2 ^ 64) small) refl
