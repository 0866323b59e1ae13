-- The output for the lines of an input.
use Rattle.std.specs.Prelude.{ℕ, ◌+◌, Bool, List, [], ◌∷◌, ◌++◌, take, Result, Ok, Err, if◌then◌else◌}
use Rattle.drf_core.specs.Machine.{Machine}
use Rattle.drf_rows.specs.LimitNumbers.{LimitNumbers}
use Rattle.drf_rows.specs.Step.{reply_to, rows_after}
use Rattle.drf_rows.specs.declared.event.Event.{Event}
use Rattle.drf_rows.specs.declared.rows.Rows.{Rows}
use Rattle.drf_lines.specs.declared.fault.LineFault.{LineFault}
use Rattle.drf_lines.specs.Meaning.{longest_line, meaning_of}
use Rattle.drf_lines.specs.ReplyLine.{reply_line, fault_line}

-- the bytes of a line that are kept: at most one more than a line can have
abbrev pub kept_of : List ℕ → List ℕ
kept_of line = take (longest_line + 1) line

-- the line itself, if `echo` is set
abbrev pub echo_of : Bool → List ℕ → List ℕ
echo_of echo line = if echo then kept_of line ++ 10 ∷ [] else []

-- the reply line for a line with this meaning: the reply to the event, or the error of the line
abbrev pub reply_line_after : LimitNumbers → Rows → Result Event LineFault → List ℕ
reply_line_after limits rows (Ok event) = reply_line (reply_to limits rows event)
reply_line_after limits rows (Err fault) = fault_line fault

-- the rows after a line with this meaning; only an event changes them
abbrev pub rows_after_line : LimitNumbers → Rows → Result Event LineFault → Rows
rows_after_line limits rows (Ok event) = rows_after limits rows event
rows_after_line limits rows (Err fault) = rows

-- the output for some lines: for each line the line itself if `echo` is set, and its reply line
abbrev pub output_from : LimitNumbers → Bool → Rows → List (List ℕ) → List ℕ
output_from limits echo rows [] = []
output_from limits echo rows (line ∷ lines) =
    echo_of echo line
    ++ (reply_line_after limits rows (meaning_of line)
    ++ output_from limits echo (rows_after_line limits rows (meaning_of line)) lines)

-- the output for the lines of an input from this allocator
unfoldable pub output_of : Machine → Bool → List (List ℕ) → List ℕ
output_of machine echo lines = output_from machine.limits echo machine.rows lines
