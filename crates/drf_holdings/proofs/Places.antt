-- Positions of numbers among slots with increasing numbers.
use Rattle.std.specs.Prelude.{◌≡◌, ℕ, ◌==◌, ◌<◌, ◌≤◌, ◌+◌, false, true, List, [], ◌∷◌, map, Option, Some, length, take, drop, slice_get}
use Rattle.std.specs.List.{AllByRecursion, AllWithin}
use Rattle.std.proofs.Common.{refl, sym, ap, subst, ◌∙◌, zero, suc, ltb, get_or, arith}
use Rattle.std.proofs.lemmas.Bool.{ltb-true, ltb-false}
use Rattle.std.proofs.lemmas.Option.{slice_get_read}
use Rattle.drf_holdings.specs.ByNumber.{slot_number}
use Rattle.drf_holdings.specs.Rising.{IsRising, AreOthers}
use Rattle.drf_holdings.specs.declared.by_number.Slot.{Slot}
use Rattle.drf_holdings.proofs.RisingLists.{less_other, above_at, above_others}

some_same : {Y : Type 0} (o : Option Y) (a b : Y) → o ≡ Some a → o ≡ Some b → a ≡ b
some_same o a b one two = cc

module _ {X : Type 0} (n : ℕ) where
  -- what `partition_point` says of each slot
  pub below_each : (slots : List (Slot X)) (i : ℕ) → i ≤ length slots → AllWithin (λ s. ltb s.number n ≡ true) slots 0 i
      → AllByRecursion (λ s. s.number < n) (take i slots)
  below_each [] zero within all = tt
  below_each [] (suc i) within all = tt
  below_each (s ∷ slots) zero within all = tt
  below_each (s ∷ slots) (suc i) within all = (
    ltb-true s.number n (all 0 s (omega arith) (omega arith)),
    below_each slots i (omega (arith, within)) (λ k d low high. all (suc k) d (omega arith) (omega (arith, high))),
  )

  pub above_each : (slots : List (Slot X)) (i : ℕ) → AllWithin (λ s. ltb s.number n ≡ false) slots i (length slots)
      → AllByRecursion (λ s. n ≤ s.number) (drop i slots)
  above_each [] zero all = tt
  above_each [] (suc i) all = tt
  above_each (s ∷ slots) zero all = (
    ltb-false s.number n (all 0 s (omega arith) (omega arith)),
    above_each slots zero (λ k d low high. all (suc k) d (omega arith) (omega (arith, high))),
  )
  above_each (s ∷ slots) (suc i) all = above_each slots i (λ k d low high. all (suc k) d (omega (arith, low)) (omega (arith, high)))

  -- if the last number is below a number, all are
  pub all_below : (slots : List (Slot X)) (i : ℕ) (s : Slot X) → length slots ≤ i + 1 → IsRising (map slot_number slots)
      → slice_get slots i ≡ Some s → s.number < n → AllByRecursion (λ t. t.number < n) slots
  all_below [] i s long rising at less = tt
  all_below (t ∷ []) zero s long rising at less =
      let same : t ≡ s = cc in
      (subst (λ (u : Slot X). u.number < n) (sym same) less, tt)
  all_below (t ∷ u ∷ us) zero s long rising at less = absurd (omega (arith, long))
  all_below (t ∷ slots) (suc i) s long rising at less = (
    omega (arith, less, above_at (slot_number {X = X}) t.number slots i s rising.0 at),
    all_below slots i s (omega (arith, long)) rising.1 at less,
  )

  -- if the first number that is not below a number differs from it, no slot has that number
  pub others_around : (slots : List (Slot X)) (place : ℕ) → IsRising (map slot_number slots)
      → AllByRecursion (λ s. s.number < n) (take place slots) → AllByRecursion (λ s. n ≤ s.number) (drop place slots)
      → ((s : Slot X) → slice_get slots place ≡ Some s → (s.number == n) ≡ false) → AreOthers slot_number n slots
  others_around [] place rising below above first = tt
  others_around (s ∷ slots) zero rising below above first = (first s refl, above_others (slot_number {X = X}) n s.number slots above.0 rising.0)
  others_around (s ∷ slots) (suc place) rising below above first =
      (less_other (slot_number {X = X}) s.number n below.0, others_around slots place rising.1 below.1 above first)

  pub others_but : (slots : List (Slot X)) (place : ℕ) (r : Slot X) → IsRising (map slot_number slots)
      → AllByRecursion (λ s. s.number < n) (take place slots) → AllByRecursion (λ s. n ≤ s.number) (drop place slots)
      → place < length slots → r ≡ get_or slots place r → (r.number == n) ≡ false → AreOthers slot_number n slots
  others_but slots place r rising below above within read other =
      let here : slice_get slots place ≡ Some r = slice_get_read slots (length slots) place r refl within read in
      others_around slots place rising below above (λ s at.
      let same : r ≡ s = some_same (slice_get slots place) r s here at in
      ap (λ (t : Slot X). t.number == n) (sym same) ∙ other)
