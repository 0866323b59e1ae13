-- The state of a comparison after it has examined some receipts.
use Rattle.std.specs.Prelude.{◌≡◌, ℕ, ◌+◌, ◌<◌, Bool, false, cond, nat_le, List, [], ◌∷◌, length, Option, Some, None, MatchBool, slice_index_or}
use Rattle.drf_board.specs.declared.entry.Entry.{Entry}
use Rattle.drf_master.specs.Matching.{AreAllJournals, IsLeast, IsWrong, times}
use Rattle.drf_master.specs.declared.pass.Receipt.{Receipt}

-- the place has a receipt among those examined
abbrev pub marked : List Bool → ℕ → Bool
marked named place = slice_index_or named place false

-- the least place that a receipt may have after one for the place `before`, if there is one
abbrev pub least_above : Option ℕ → ℕ
least_above None = 0
least_above (Some before) = before + 1

-- the least place that a receipt may have after these
abbrev pub least_after : ℕ → List Receipt → ℕ
least_after least [] = least
least_after least (r ∷ rs) = least_after (r.place + 1) rs

-- the lesser of a place and another, if there is one
abbrev pub lesser : Option ℕ → ℕ → ℕ
lesser None n = n
lesser (Some m) n = cond (nat_le m n) m n

-- the least number for which something holds, or `None` if there is none
abbrev pub IsLeastIfAny : (ℕ → Type 0) → Option ℕ → Type 0
IsLeastIfAny P None = (n : ℕ) → ¬ P n
IsLeastIfAny P (Some n) = IsLeast P n

-- `named` says for each place whether a receipt is for it, and `wrong` is the least place at which something is wrong
pub record IsTally (journal : List Entry) (lists : List (List Receipt)) (named : List Bool) (wrong : Option ℕ) : Type 0 where
  pub places : length named ≡ length journal
  pub seen : (place : ℕ) → place < length journal → MatchBool (marked named place) (0 < times place lists) (times place lists ≡ 0)
  pub least : IsLeastIfAny (IsWrong journal lists) wrong
  pub entries : wrong ≡ None → AreAllJournals journal lists
