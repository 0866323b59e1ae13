-- Things in slots, in order of number. A slot whose thing was removed is free.
use Rattle.std.specs.Prelude.{◌≡◌, ℕ, List, map, length, slice_get, Some, IfSome}
use Rattle.std.specs.List.{filter_map, AllByRecursion}
use Rattle.drf_holdings.specs.Rising.{IsRising}
use Rattle.drf_holdings.specs.declared.by_number.Slot.{Slot}

abbrev pub slot_number : {X : Type 0} → Slot X → ℕ
slot_number s = s.number

-- the things in the slots, in order
abbrev pub things_in : {X : Type 0} → List (Slot X) → List X
things_in slots = filter_map (λ s. s.thing) slots

-- each slot has the number of its thing
abbrev pub AreUnder : {X : Type 0} → (X → ℕ) → List (Slot X) → Type 0
AreUnder number slots = AllByRecursion (λ s. IfSome s.thing (λ x. s.number ≡ number x)) slots

-- each slot has the number of its thing, the numbers are increasing, and `count` is the number of things
pub record IsByNumber {X : Type 0} (number : X → ℕ) (slots : List (Slot X)) (count : ℕ) : Type 0 where
  pub under : AreUnder number slots
  pub rising : IsRising (map slot_number slots)
  pub counted : count ≡ length (things_in slots)

-- the slot at this position has this number
pub record IsPlaceOf {X : Type 0} (number : ℕ) (slots : List (Slot X)) (place : ℕ) : Type 0 where
  pub slot : Slot X
  pub at : slice_get slots place ≡ Some slot
  pub its : slot.number ≡ number

-- if the old slots are in order, so are the new ones
abbrev pub KeepsOrder : {X : Type 0} → List (Slot X) → List (Slot X) → Type 0
KeepsOrder {X} old new = ((number : X → ℕ) → AreUnder number old → AreUnder number new) × (IsRising (map slot_number old) → IsRising (map slot_number new))
