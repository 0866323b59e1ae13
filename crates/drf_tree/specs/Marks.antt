-- Dirty flags, and the number of keys that were computed.
use Rattle.std.specs.Prelude.{◌≡◌, ◌≤◌, ◌<◌, ◌+◌, ◌==◌, ℕ, Bool, false, true, List, length, slice_index_or}
use Rattle.std.specs.List.{AllByRecursion, count_by, list_any}
use Rattle.drf_sorter.specs.Work.{Work, debt}

-- the dirty flag of each number, and the number of keys that were computed
pub record Flags : Type 0 where
  pub stale : List Bool
  pub made : ℕ

-- the number of flags that are set
abbrev pub marked_in : List Bool → ℕ
marked_in stale = count_by (λ flag. flag) stale

-- the work of these flags: keys computed, and keys that can be stale
abbrev pub work_of : Flags → Work
work_of flags = record { made = flags.made; marked = marked_in flags.stale }

-- the number of computed keys does not fall, and the sum of both numbers of the work grows by at most `most`
pub record Spends (old new : Flags) (most : ℕ) : Type 0 where
  pub made : old.made ≤ new.made
  pub work : debt (work_of new) ≤ debt (work_of old) + most

-- no key is computed, and at most `most` more flags are set
pub record Defers (old new : Flags) (most : ℕ) : Type 0 where
  pub made : new.made ≡ old.made
  pub work : debt (work_of new) ≤ debt (work_of old) + most

-- each number whose flag is set is listed, each listed number waits, and the list of waiting numbers has room for all
pub record AreWaiting (stale listed : List Bool) (waiting : List ℕ) (room : ℕ) : Type 0 where
  pub long : length listed ≡ length stale
  pub few : length waiting ≤ marked_in listed
  pub room_is : length stale ≤ room
  pub marked : (i : ℕ) → slice_index_or stale i false ≡ true → slice_index_or listed i false ≡ true
  pub waits : (i : ℕ) → slice_index_or listed i false ≡ true → list_any (λ n. n == i) waiting ≡ true
  pub within : AllByRecursion (λ n. n < length stale) waiting
