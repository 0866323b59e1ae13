-- Filters with gaps where some were taken out.
use Rattle.std.specs.Prelude.{◌≡◌, ℕ, Bool, false, List, Option, None, Some, map, length, set, slice_index_or, if◌then◌else◌}
use Rattle.std.specs.Option.{option_map_or}
use Rattle.drf_hash.specs.Slots.{filled}
use Rattle.drf_rows.specs.declared.rows.FilterRow.{FilterRow}
use Rattle.drf_gates.specs.filters.Index.{IsIndexed, IsMarked, IsTidy, IsLeft, NoneEndsBefore}
use Rattle.drf_gates.specs.declared.filters.index.Key.TheVariants.{Client, ClientAndAgent}
use Rattle.drf_gates.specs.declared.filters.slots.Slots.{Slots}

-- there is something, and it passes a test
abbrev pub slot_passes : {X : Type 0} → (X → Bool) → Option X → Bool
slot_passes test slot = option_map_or test slot false

-- the slots without what is at a place, if it passes a test
abbrev pub without_one : {X : Type 0} → (X → Bool) → List (Option X) → ℕ → List (Option X)
without_one test slots place = if slot_passes test (slice_index_or slots place None) then set slots place None else slots

abbrev pub filters_in : Slots → List FilterRow
filters_in s = filled s.rows.items

-- the filters are counted, and their hashes are known, by client, and by client and agent
pub record AreMarked (s : Slots) : Type 0 where
  pub pairs : IsMarked ClientAndAgent s.rows.items s.pairs
  pub clients : IsMarked Client s.rows.items s.clients
  pub live : s.live ≡ length (filters_in s)

-- each filter is in the chains of its hashes
pub record AreTidy (s : Slots) : Type 0 where
  pub pairs : IsTidy s.pairs
  pub clients : IsTidy s.clients

-- the filters are found by their client, and by client and agent, and counted
pub record IsSlots (s : Slots) : Type 0 where
  pub pairs : IsIndexed ClientAndAgent s.rows.items s.pairs
  pub clients : IsIndexed Client s.rows.items s.clients
  pub live : s.live ≡ length (filters_in s)

-- the filters are left of those that are found, and there are no gaps
pub record IsClosed (s : Slots) : Type 0 where
  pub pairs : IsLeft ClientAndAgent s.rows.items s.pairs
  pub clients : IsLeft Client s.rows.items s.clients
  pub closed : s.rows.items ≡ map Some (filters_in s)

-- and none of them ends before a moment
pub record IsFilterTable (s : Slots) (soonest : ℕ) : Type 0 where
  pub slots : IsSlots s
  pub none_before : NoneEndsBefore soonest (filters_in s)
