-- Statements that reading a written line of a state gives the same value back.
use Rattle.std.specs.Prelude.{◌≡◌, List, Ok}
use Rattle.std.specs.List.{AllByRecursion}
use Rattle.drf_rows.specs.declared.rows.Rows.{Rows}
use Rattle.drf_saved.specs.Saved.{head_of, saved_rows}
use Rattle.drf_saved.specs.declared.saved.SavedRow.{SavedRow}
use Rattle.drf_saved.specs.declared.saved.StateLine.TheVariants as says
use Rattle.drf_lines.specs.StateLine.{head_line, row_line}
use Rattle.drf_lines.specs.StateMeaning.{state_line_meaning}
use Rattle.drf_state.specs.State.{body_text, closing, lines_before}

-- the line of the row is read as this row
abbrev pub IsRead : SavedRow → Type 0
IsRead row = state_line_meaning (row_line row) ≡ Ok (says.Row row)

abbrev pub AreRead : List SavedRow → Type 0
AreRead rows = AllByRecursion IsRead rows

-- the first line is read as the head
abbrev pub IsHeadRead : Rows → Type 0
IsHeadRead rows = state_line_meaning (head_line (head_of rows)) ≡ Ok (says.Head (head_of rows))

-- the last line is read as the end
abbrev pub IsEndRead : Rows → Type 0
IsEndRead rows = state_line_meaning (closing (body_text rows) (lines_before rows)) ≡ Ok says.End

-- each line of the text of a state can be read back
pub record IsReadBack (rows : Rows) : Type 0 where
  pub head : IsHeadRead rows
  pub each : AreRead (saved_rows rows)
  pub end : IsEndRead rows
