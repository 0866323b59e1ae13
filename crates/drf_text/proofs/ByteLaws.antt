-- Theorems about which bytes occur in names and written amounts.
use Rattle.std.proofs.Common.{◌≡◌, ℕ, ◌/◌, ◌%◌, ◌^◌, ◌<◌, zero, suc, Bool, true, false, eqb, ◌&&◌, length, decimal, All, refl, sym, ap, subst, ◌∙◌, arith}
use Rattle.std.proofs.lemmas.Bool.{true≢false, and_parts, ne_eqb}
use Rattle.std.proofs.lemmas.List.Elements.{All-append, All-cons, All-nil, All-weaker}
use Rattle.std.proofs.lemmas.List.Sums.{AllPass-from_list_all}
use Rattle.std.specs.Char.{is_ascii_digit}
use Rattle.std.specs.Prelude.{◌||◌, IsTrue, nat_le, nat_lt}
use Rattle.std.specs.List.{list_all}
use Rattle.drf_role.specs.Name.{IsLabel}
use Rattle.drf_role.proofs.TestLaws.{label_decides}
use Rattle.drf_role.specs.Tests.{is_label_byte}
use Rattle.drf_role.specs.Text.{Text}
use Rattle.drf_text.proofs.DecimalLaws.{digits_of, decimals_none, decimals_said}
use Rattle.drf_text.specs.Number.{is_point}
use Rattle.drf_text.specs.Written.{decimals_text, amount_text}

-- no byte of the text passes the test
abbrev pub HasNone : (ℕ → Bool) → Text → Type 0
HasNone p text = All (λ b. p b ≡ false) text

-- a byte of a class differs from a byte that is not of the class
pub not_that : (class : ℕ → Bool) (c : ℕ) → class c ≡ false → (b : ℕ) → class b ≡ true → eqb b c ≡ false
not_that class c out b inside = ne_eqb b c (λ e. true≢false (sym inside ∙ ap class e ∙ out))

pub none_of : (p class : ℕ → Bool) (text : Text) → ((b : ℕ) → class b ≡ true → p b ≡ false) → IsTrue (list_all class text) → HasNone p text
none_of p class text apart all = All-weaker (λ b. class b ≡ true) (λ b. p b ≡ false) apart text (AllPass-from_list_all class text all)

-- ---- names

label_bytes : (label : Text) → IsLabel label → IsTrue (list_all is_label_byte label)
label_bytes label is =
    let more = (and_parts (nat_lt 0 (length label)) (nat_le (length label) 64 && list_all is_label_byte label) ((label_decides label).1 is)).1 in
    (and_parts (nat_le (length label) 64) (list_all is_label_byte label) more).1

pub label_has_none : (p : ℕ → Bool) (label : Text) → IsLabel label → ((b : ℕ) → is_label_byte b ≡ true → p b ≡ false) → HasNone p label
label_has_none p label is apart = none_of p is_label_byte label apart (label_bytes label is)

-- ---- amounts

-- a digit or a point
abbrev pub is_amount_byte : ℕ → Bool
is_amount_byte b = is_ascii_digit b || is_point b

pub amount_has_none : (p : ℕ → Bool) (amount : ℕ) → amount < 2 ^ 64 → ((b : ℕ) → is_amount_byte b ≡ true → p b ≡ false) → HasNone p (amount_text amount)
amount_has_none p amount small apart = by (amount % 1000) refl
  where
    digits : (text : Text) → IsTrue (list_all is_ascii_digit text) → HasNone p text
    digits text all = none_of p is_ascii_digit text (λ b is. apart b (rw is refl)) all

    by : (rest : ℕ) → amount % 1000 ≡ rest → HasNone p (amount_text amount)
    by zero none =
        All-append (λ b. p b ≡ false) (decimal (amount / 1000)) (decimals_text (amount % 1000)) (digits _ (digits_of (amount / 1000) (omega arith)))
        (subst (HasNone p) (sym (decimals_none (amount % 1000) none)) (All-nil (λ b. p b ≡ false)))
    by (suc rest) some =
        let behind = decimals_said (amount % 1000) (λ none. omega (arith, none, some)) (omega arith) in
        let more = digits behind.digits (and_parts (nat_lt 0 (length behind.digits)) (list_all is_ascii_digit behind.digits) behind.are_digits).1 in
        All-append (λ b. p b ≡ false) (decimal (amount / 1000)) (decimals_text (amount % 1000)) (digits _ (digits_of (amount / 1000) (omega arith)))
        (subst (HasNone p) (sym behind.written) (All-cons (λ b. p b ≡ false) 46 behind.digits (apart 46 refl) more))
