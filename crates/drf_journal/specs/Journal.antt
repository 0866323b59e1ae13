-- When a journal is right: its lines come in pairs of an event line and its reply line.
use Rattle.std.specs.Prelude.{◌≡◌, ℕ, ◌+◌, ◌*◌, List, [], ◌∷◌, ◌++◌, length, take, map, slice_get}
use Rattle.drf_core.specs.Machine.{Machine}
use Rattle.drf_rows.specs.LimitNumbers.{LimitNumbers}
use Rattle.drf_rows.specs.declared.rows.Rows.{Rows}
use Rattle.drf_lines.specs.Meaning.{meaning_of}
use Rattle.drf_journal.specs.declared.journal.Verdict.{Verdict}
use Rattle.drf_journal.specs.declared.journal.Verdict.TheVariants.{Good, Bad}
use Rattle.drf_journal.specs.Lines.{lines_of}
use Rattle.drf_journal.specs.Output.{reply_line_after, rows_after_line}

-- the event lines: the first, the third, and so on
abbrev pub event_lines : List (List ℕ) → List (List ℕ)
event_lines [] = []
event_lines (event ∷ []) = event ∷ []
event_lines (event ∷ reply ∷ lines) = event ∷ event_lines lines

-- the reply lines: the second, the fourth, and so on
abbrev pub reply_lines : List (List ℕ) → List (List ℕ)
reply_lines [] = []
reply_lines (event ∷ []) = []
reply_lines (event ∷ reply ∷ lines) = reply ∷ reply_lines lines

-- the reply line of each line, when the events among them are taken one after another
abbrev pub replies_from : LimitNumbers → Rows → List (List ℕ) → List (List ℕ)
replies_from limits rows [] = []
replies_from limits rows (line ∷ lines) =
    reply_line_after limits rows (meaning_of line)
    ∷ replies_from limits (rows_after_line limits rows (meaning_of line)) lines

-- the expected replies: those to the event lines, from this allocator
unfoldable pub replies_due : Machine → List (List ℕ) → List (List ℕ)
replies_due machine lines = replies_from machine.limits machine.rows (event_lines lines)

-- the replies in the journal, each with a line feed, because the last line can lack it
unfoldable pub replies_there : List (List ℕ) → List (List ℕ)
replies_there lines = map (λ line. line ++ 10 ∷ []) (reply_lines lines)

-- two lists are equal up to an index and differ there, or one of them ends there
pub record IsFirstDifference (one other : List (List ℕ)) (place : ℕ) : Type 0 where
  pub before : take place one ≡ take place other
  pub there : ¬ (slice_get one place ≡ slice_get other place)

-- the verdict on a journal that begins with this allocator: it is good and has this number of event lines if its
-- replies are exactly the expected ones; otherwise it is bad at the line, counted from 1, of the first wrong or missing
-- reply
abbrev pub IsVerdict : Machine → List ℕ → Verdict → Type 0
IsVerdict machine journal (Good events) =
    (replies_due machine (lines_of journal) ≡ replies_there (lines_of journal)) × (events ≡ length (event_lines (lines_of journal)))
IsVerdict machine journal (Bad line) =
    (place : ℕ) × IsFirstDifference (replies_due machine (lines_of journal)) (replies_there (lines_of journal)) place
    × (line ≡ 2 * (place + 1))
