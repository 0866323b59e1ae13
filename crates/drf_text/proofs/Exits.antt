-- The error that a reader returns for an invalid name, role or number.
use Rattle.std.proofs.Common.{◌≡◌, ◌≢◌, ℕ, ◌^◌, ◌<◌, Bool, true, false, cond, ltb, [], length, Option, Some, None, Result, Ok, Err, refl, ap, ◌∙◌, inl, inr, IsOk}
use Rattle.std.proofs.lemmas.Bool.{cases_Bool, lt-ltb, ltb-true, and_right}
use Rattle.std.specs.Option.{ok_or}
use Rattle.std.specs.Result.{OkIff, result_ok}
use Rattle.std.specs.Str.Parse.{digits_value}
use Rattle.drf_text.proofs.Names.{Text, trimmed, IsMeaning, fault_of_name, fault_of_role, is_end, low_of, high_of, TextFault, BadName, BadRole, BadNumber, TooLarge, Memory}
use Rattle.drf_role.specs.declared.name.NameFault.{NameFault}
use Rattle.drf_role.specs.declared.name.NameFault.TheVariants as name
use Rattle.drf_role.specs.declared.role.RoleFault.{RoleFault}
use Rattle.drf_role.specs.declared.role.RoleFault.TheVariants as role
use Rattle.drf_bundle.specs.declared.value.Value.{Value}
use Rattle.drf_bundle.specs.declared.value.Value.TheVariants.{Scalar}
use Rattle.drf_text.specs.Number.{are_digits, is_number, thousandths_of, number_of}
use Rattle.drf_text.specs.Steps.{end_in, ends_in, pair_in, scalar_in}

pub name_refused : {A : Type 0} (refused : NameFault) (b : Bool) (x : A) → (refused ≡ name.BadName → b ≡ false)
    → IsMeaning (Err (fault_of_name refused)) (cond b (Ok x) (Err BadName))
name_refused name.BadName b x bad = λ _. rw (bad refl)
name_refused name.Memory b x bad = λ known. absurd (known refl)

pub name_short : {A : Type 0} (refused : NameFault) (b : Bool) (x : A) → (refused ≡ name.Memory → b ≡ true)
    → fault_of_name refused ≡ Memory → IsOk (cond b (Ok x) (Err BadName))
name_short name.BadName b x good is = absurd (cc)
name_short name.Memory b x good is = rw (good refl) refl

pub role_refused : {A : Type 0} (refused : RoleFault) (b : Bool) (x : A) → (refused ≡ role.BadRole → b ≡ false)
    → IsMeaning (Err (fault_of_role refused)) (cond b (Ok x) (Err BadRole))
role_refused role.BadRole b x bad = λ _. rw (bad refl)
role_refused role.Memory b x bad = λ known. absurd (known refl)

-- ---- ends of ranges

pub end_from_parse : {E : Type 0} (text : Text) (r : Result ℕ E) → are_digits text ≡ true → 0 < length text
    → OkIff r ((0 < length text) × (digits_value 10 text < 2 ^ 32)) (digits_value 10 text) → result_ok r ≡ end_in text
end_from_parse text (Ok x) digits some h = rw (digits, lt-ltb _ _ h.0.1) (ap Some h.1)
end_from_parse text (Err e) digits some h = elim (cases_Bool (ltb (digits_value 10 text) (2 ^ 32))) [
  | inl small ↦ absurd (h (some, ltb-true _ _ small))
  | inr large ↦ rw (digits, large) refl
]

pub pair_without_dash : (part : Text) → (low_of part ≡ trimmed part) × (high_of part ≡ []) → pair_in part ≡ Err BadNumber
unfolding pair_in
pair_without_dash part parts = rw (parts.0, parts.1) (rw (and_right (is_end (trimmed part)) false refl) refl)

pub pair_with_dash : (part low high : Text) (o : Option (ℕ × ℕ)) (r : Result (ℕ × ℕ) TextFault) → low ≡ low_of part → high ≡ high_of part
    → o ≡ ends_in low high → r ≡ ok_or o BadNumber → r ≡ pair_in part
unfolding pair_in
pair_with_dash part low high o r first second ends is =
    is ∙ (λ i. ok_or (ends i) BadNumber) ∙ (λ i. ok_or (ends_in (first i) (second i)) BadNumber)

-- ---- scalars

fits_at : (number small : Bool) (m n : ℕ) → Ok n ≡ cond number (cond {A = Result ℕ TextFault} small (Ok m) (Err TooLarge)) (Err BadNumber)
    → Ok (Some (Scalar n)) ≡ cond number (Ok (cond small (Some (Scalar m)) None)) (Err BadNumber)
fits_at true true m n is = let same : n ≡ m = cc in ap (λ (k : ℕ). let r : Result (Option Value) TextFault = Ok (Some (Scalar k)) in r) same
fits_at true false m n is = cc
fits_at false small m n is = cc

too_large_at : (number small : Bool) (m : ℕ) → Err TooLarge ≡ cond number (cond {A = Result ℕ TextFault} small (Ok m) (Err TooLarge)) (Err BadNumber)
    → Ok None ≡ cond {A = Result (Option Value) TextFault} number (Ok (cond small (Some (Scalar m)) None)) (Err BadNumber)
too_large_at true true m is = cc
too_large_at true false m is = refl
too_large_at false small m is = cc

refused_at : (number small : Bool) (m : ℕ) (fault : TextFault)
    → Err fault ≡ cond number (cond {A = Result ℕ TextFault} small (Ok m) (Err TooLarge)) (Err BadNumber) → fault ≢ TooLarge
    → Err fault ≡ cond {A = Result (Option Value) TextFault} number (Ok (cond small (Some (Scalar m)) None)) (Err BadNumber)
refused_at true true m fault is other = cc
refused_at true false m fault is other = absurd (other (let same : fault ≡ TooLarge = cc in same))
refused_at false small m fault is other = let same : fault ≡ BadNumber = cc in ap Err same

pub number_fits : (text : Text) (n : ℕ) → Ok n ≡ number_of text → Ok (Some (Scalar n)) ≡ scalar_in text
unfolding number_of scalar_in
number_fits text n is = fits_at (is_number text) (ltb (thousandths_of text) (2 ^ 64)) (thousandths_of text) n is

pub number_too_large : (text : Text) → Err TooLarge ≡ number_of text → Ok None ≡ scalar_in text
unfolding number_of scalar_in
number_too_large text is = too_large_at (is_number text) (ltb (thousandths_of text) (2 ^ 64)) (thousandths_of text) is

pub number_refused : (text : Text) (fault : TextFault) → Err fault ≡ number_of text → fault ≢ TooLarge → Err fault ≡ scalar_in text
unfolding number_of scalar_in
number_refused text fault is other = refused_at (is_number text) (ltb (thousandths_of text) (2 ^ 64)) (thousandths_of text) fault is other
