-- The numbers of a line, with and without a minus sign.
use Rattle.std.proofs.Common.{◌≡◌, ℕ, suc, ◌+◌, ◌<◌, ◌≤◌, ◌^◌, Bool, true, false, cond, ◌==◌, List, [], ◌∷◌, ◌++◌, length, get_or, take, drop, Option, Some, None, refl, sym, ap, ◌∙◌, arith, append-nil, ne_eqb}
use Rattle.std.specs.Prelude.{◌&&◌, nat_lt, nat_le}
use Rattle.std.specs.Option.{SomeIff}
use Rattle.std.proofs.Math.Nat.{pow-le-pow_right}
use Rattle.std.proofs.lemmas.Int.Digits.{digits_value-lt}
use Rattle.std.proofs.lemmas.List.{length-take-le}
use Rattle.std.proofs.lemmas.Str.{digit_value_digit}
use Rattle.std.specs.Char.{digit_value, is_ascii_digit}
use Rattle.std.specs.Int.{IsInRange}
use Rattle.std.specs.Float.{binary64, float_is_finite}
use Rattle.std.specs.Str.Parse.{AllDigits, digits_value}
use Rattle.std.proofs.lemmas.Bool.Decides.{nat_tests}
use Rattle.fast_float.specs.Text.{Parts, IsInteger, IsWellFormed, scan, digits_of, nearest, with_sign}
use Rattle.fast_float.proofs.Writing.{scan-text_of}
use Rattle.serde_json.specs.Data.{unsigned, negative, float}
use Rattle.serde_json.specs.Find.{as_u64}
use Rattle.serde_json.specs.Read.{is_integer, number_of, number_from, float_of}
use Rattle.drf_lines.specs.LineValue.{known_number}

pub number_above : (s : List ℕ) → (get_or s 0 0 == 45) ≡ false → number_of s ≡ number_from false (scan s)
unfolding number_of
number_above s e = rw e

pub number_below : (s : List ℕ) → (get_or s 0 0 == 45) ≡ true → number_of s ≡ number_from true (scan (drop 1 s))
unfolding number_of
number_below s e = rw e

none_at : (b c : Bool) (p : Parts) → as_u64 (known_number (cond b (Some (negative (with_sign true (digits_of p)))) (cond c (Some (float (nearest binary64 true p))) None))) ≡ None
none_at true c p = refl
none_at false true p = refl
none_at false false p = refl

pub none_below : (p : Parts) → as_u64 (known_number (number_from true p)) ≡ None
none_below p =
    none_at (is_integer p && nat_lt 0 (digits_of p) && nat_le (digits_of p) (2 ^ 63)) (float_is_finite (nearest binary64 true p)) p

float_is_none : (p : Parts) (b : Bool) → as_u64 (known_number (cond b (Some (float (nearest binary64 false p))) None)) ≡ None
float_is_none p true = refl
float_is_none p false = refl

above_some : (p : Parts) → IsInteger p × (digits_of p < 2 ^ 64) → number_from false p ≡ Some (unsigned (digits_of p))
above_some p h = grind (arith, nat_tests)

above_none : (p : Parts) → (IsInteger p × (digits_of p < 2 ^ 64) → ⊥) → number_from false p ≡ float_of false p
above_none p h = grind (arith, nat_tests)

pub whole_read : (p : Parts) (r : Option ℕ) → SomeIff r (IsInteger p × (digits_of p < 2 ^ 64)) (digits_of p)
    → r ≡ as_u64 (known_number (number_from false p))
whole_read p None h = sym (ap (λ o. as_u64 (known_number o)) (above_none p h) ∙ float_is_none p (float_is_finite (nearest binary64 false p)))
whole_read p (Some n) h = sym (ap (λ o. as_u64 (known_number o)) (above_some p h.0) ∙ ap Some (sym h.1))

-- ---- a text that consists of digits

abbrev digits : List ℕ → Parts
digits ds = record { whole = ds; point = false; fraction = []; exponent_negative = false; exponent = []; len = length (ds ++ []) }

digits_scanned : (ds : List ℕ) → AllDigits 10 ds → scan ds ≡ digits ds
digits_scanned ds all =
    let formed : IsWellFormed (digits ds) =
    record { whole_digits = all; fraction_digits = tt; exponent_digits = tt; no_point = λ _. refl; no_exponent = λ _. refl; len_is = refl } in
    ap scan (sym (append-nil ds)) ∙ scan-text_of (digits ds) formed

no_minus : (ds : List ℕ) → AllDigits 10 ds → 0 < length ds → get_or ds 0 0 ≡ 45 → ⊥
no_minus [] all some e = omega arith
no_minus (d ∷ ds) all some e = let digit : digit_value d < 10 = all.0 in let minus : d ≡ 45 = e in grind arith

number_of-digits : (ds : List ℕ) → AllDigits 10 ds → 0 < length ds → digits_value 10 ds < 2 ^ 64 → number_of ds ≡ Some (unsigned (digits_value 10 ds))
number_of-digits ds all some small =
    number_above ds (ne_eqb (get_or ds 0 0) 45 (no_minus ds all some))
    ∙ ap (number_from false) (digits_scanned ds all)
    ∙ above_some (digits ds) ((some, refl, refl), rw append-nil small)
    ∙ ap (λ text. Some (unsigned (digits_value 10 text))) (append-nil ds)

digits_below : (ds : List ℕ) (n : ℕ) → AllDigits 10 ds → length ds ≤ n → digits_value 10 ds < 10 ^ n
digits_below ds n all few =
    let below : digits_value 10 ds < 10 ^ length ds = digits_value-lt 10 ds all in
    let ten : 0 < 10 = omega arith in
    let more : 10 ^ length ds ≤ 10 ^ n = pow-le-pow_right ten few in
    omega (arith, below, more)

pub number_of-few : (ds : List ℕ) → AllDigits 10 ds → 0 < length ds → length ds ≤ 19 → number_of ds ≡ Some (unsigned (digits_value 10 ds))
number_of-few ds all some few = let small : digits_value 10 ds < 10 ^ 19 = digits_below ds 19 all few in number_of-digits ds all some (omega (arith, small))

-- the digits before the last of at most 19 are a number below 10^18
pub prefix_below : (bytes : List ℕ) (i : ℕ) → i < length bytes → length bytes ≤ 19 → AllDigits 10 (take i bytes) → digits_value 10 (take i bytes) < 10 ^ 18
prefix_below bytes i inside few all = digits_below (take i bytes) 18 all (omega (arith, length-take-le i bytes (omega arith)))

-- a digit has the value of its distance from `0`
pub digit_is : (byte : ℕ) → is_ascii_digit byte ≡ true → (digit_value byte + 48 ≡ byte) × (digit_value byte < 10)
digit_is byte e =
    let inside : IsInRange 48 57 byte = grind arith in
    let is : digit_value byte + 48 ≡ byte = digit_value_digit byte inside in
    (is, omega (arith, is, inside.1))

pub all_digits : (s : List ℕ) → ((k : ℕ) → k < length s → is_ascii_digit (get_or s k 0) ≡ true) → AllDigits 10 s
all_digits [] each = tt
all_digits (x ∷ xs) each = ((digit_is x (each 0 (omega arith))).1, all_digits xs (λ k short. each (suc k) (omega arith)))

-- ---- the value of a number that was read

pub whole_known : (text : List ℕ) (n : ℕ) → number_of text ≡ Some (unsigned n) → Some n ≡ as_u64 (known_number (number_of text))
whole_known text n e = sym (ap (λ o. as_u64 (known_number o)) e)
