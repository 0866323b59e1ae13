-- Lists with free slots, and maps from keys to slot numbers.
use Rattle.std.specs.Prelude.{◌≡◌, ℕ, zero, suc, Bool, List, [], ◌∷◌, length, map, Option, Some, None, if◌then◌else◌}
use Rattle.std.specs.List.{IsDistinct, filter_map}
use Rattle.std.specs.Map.{lookup}
use Rattle.std.specs.Option.{option_map}

-- the values of the slots in use, in order
abbrev pub filled : {X : Type 0} → List (Option X) → List X
filled slots = filter_map (λ s. s) slots

-- the number of the slot whose value has a key
abbrev pub slot_of : {K X : Type 0} → (K → K → Bool) → (X → K) → K → List (Option X) → Option ℕ
slot_of same key k [] = None
slot_of same key k (None ∷ slots) = option_map (λ i. suc i) (slot_of same key k slots)
slot_of same key k (Some x ∷ slots) = if same k (key x) then Some zero else option_map (λ i. suc i) (slot_of same key k slots)

-- for each slot, a start number plus the number of slots in use before it
abbrev pub ranks_of : {X : Type 0} → ℕ → List (Option X) → List ℕ
ranks_of before [] = []
ranks_of before (None ∷ slots) = before ∷ ranks_of before slots
ranks_of before (Some x ∷ slots) = before ∷ ranks_of (suc before) slots

-- a map finds each key's slot, no two values have the same key, and the number of values is right
pub record IsRegistry {K X : Type 0} (same : K → K → Bool) (key : X → K) (slots : List (Option X)) (places : List (K × ℕ)) (number : ℕ) : Type 0 where
  pub found : (k : K) → lookup (same k) places ≡ slot_of same key k slots
  pub apart : IsDistinct same (map key (filled slots))
  pub live : number ≡ length (filled slots)
