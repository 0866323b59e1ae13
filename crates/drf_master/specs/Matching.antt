-- When a journal is a shuffle of the receipts of passes: each call once, in its caller's order.
use Rattle.std.specs.Prelude.{◌≡◌, ℕ, ◌+◌, ◌<◌, ◌≤◌, ◌⊎◌, ◌==◌, cond, List, [], ◌∷◌, length, map, Some, slice_get}
use Rattle.drf_board.specs.declared.entry.Entry.{Entry}
use Rattle.drf_master.specs.Receipts.{Held}
use Rattle.drf_master.specs.declared.pass.Receipt.{Receipt}
use Rattle.drf_master.specs.declared.matching.CloseFault.{CloseFault}
use Rattle.drf_master.specs.declared.matching.CloseFault.TheVariants.{Stranger, Missing, Mismatch, Memory}

-- ---- one pass

-- a receipt equals the journal's entry at its place, which is at least `least`
pub record IsJournals (journal : List Entry) (least : ℕ) (r : Receipt) : Type 0 where
  pub above : least ≤ r.place
  pub entry : slice_get journal r.place ≡ Some r.entry

-- each receipt of a pass equals the journal's entry, and its place is after that of the receipt before it
abbrev pub AreJournals : List Entry → ℕ → List Receipt → Type 0
AreJournals journal least [] = Unit {0}
AreJournals journal least (r ∷ rs) = IsJournals journal least r × AreJournals journal (r.place + 1) rs

-- a receipt for this place does not
abbrev pub HasBroken : List Entry → ℕ → ℕ → List Receipt → Type 0
HasBroken journal place least [] = ⊥
HasBroken journal place least (r ∷ rs) = ((r.place ≡ place) × ¬ IsJournals journal least r) ⊎ HasBroken journal place (r.place + 1) rs

-- ---- all passes

-- the receipts of each pass
abbrev pub receipts_of : List Held → List (List Receipt)
receipts_of passes = map (λ h. h.receipts) passes

-- the number of receipts
abbrev pub count : List (List Receipt) → ℕ
count [] = 0
count (rs ∷ lists) = length rs + count lists

-- the number of receipts of one pass for a place
abbrev pub times_in : ℕ → List Receipt → ℕ
times_in place [] = 0
times_in place (r ∷ rs) = cond (r.place == place) 1 0 + times_in place rs

-- the number of receipts of all passes for a place
abbrev pub times : ℕ → List (List Receipt) → ℕ
times place [] = 0
times place (rs ∷ lists) = times_in place rs + times place lists

-- `AreJournals` for each pass
abbrev pub AreAllJournals : List Entry → List (List Receipt) → Type 0
AreAllJournals journal [] = Unit {0}
AreAllJournals journal (rs ∷ lists) = AreJournals journal 0 rs × AreAllJournals journal lists

-- `HasBroken` for some pass
abbrev pub HasAnyBroken : List Entry → ℕ → List (List Receipt) → Type 0
HasAnyBroken journal place [] = ⊥
HasAnyBroken journal place (rs ∷ lists) = HasBroken journal place 0 rs ⊎ HasAnyBroken journal place lists

-- the journal is a shuffle of the receipts: each receipt equals the journal's entry, and there is exactly one receipt for each place
pub record IsShuffle (journal : List Entry) (lists : List (List Receipt)) : Type 0 where
  pub entries : AreAllJournals journal lists
  pub once : (place : ℕ) → place < length journal → times place lists ≡ 1

-- there are fewer receipts than entries
abbrev pub IsMissing : List Entry → List (List Receipt) → Type 0
IsMissing journal lists = count lists < length journal

-- a receipt for this place does not equal the journal's entry or is out of order, or two receipts are for this place
abbrev pub IsWrong : List Entry → List (List Receipt) → ℕ → Type 0
IsWrong journal lists place = HasAnyBroken journal place lists ⊎ (2 ≤ times place lists)

-- the least number for which something holds
pub record IsLeast (P : ℕ → Type 0) (n : ℕ) : Type 0 where
  pub holds : P n
  pub least : (m : ℕ) → P m → n ≤ m

-- why the journal is no shuffle; `Memory` only if there are enough receipts
abbrev pub IsFault : List Entry → List (List Receipt) → CloseFault → Type 0
IsFault journal lists Stranger = ⊥
IsFault journal lists Missing = IsMissing journal lists
IsFault journal lists (Mismatch place) = (¬ IsMissing journal lists) × IsLeast (IsWrong journal lists) place
IsFault journal lists Memory = ¬ IsMissing journal lists
