-- A text that is written line by line.
use Rattle.std.specs.Prelude.{ℕ, ◌+◌, List, ◌++◌, length, refl}
use Rattle.std.specs.Coded.{Coded, code_by, coded×, coded_ℕ, coded_list}
use Rattle.drf_lines.specs.StateLine.{head_line}
use Rattle.drf_rows.specs.declared.rows.Rows.{Rows}
use Rattle.drf_saved.specs.Saved.{head_of}
use Rattle.drf_saved.specs.declared.saved.SavedRow.{SavedRow}
use Rattle.drf_state.specs.State.{ended, rows_text}

-- the bytes, and the number of lines
pub record LinedBytes : Type 0 where
  pub bytes : List ℕ
  pub lines : ℕ

-- an encoding by which proofs tell two of them apart
abbrev pub lined_code : Coded LinedBytes
lined_code = code_by (List ℕ × ℕ) (coded× (coded_list coded_ℕ) coded_ℕ) (λ t. (t.bytes, t.lines)) (λ p. record { bytes = p.0; lines = p.1 }) (λ _. refl)

-- the text with the lines of more rows
abbrev pub with_rows : LinedBytes → List SavedRow → LinedBytes
with_rows text rows = record { bytes = text.bytes ++ rows_text rows; lines = text.lines + length rows }

-- the text with only the first line of a state
abbrev pub begun_text : Rows → LinedBytes
begun_text rows = record { bytes = ended (head_line (head_of rows)); lines = 1 }
