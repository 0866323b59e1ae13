-- The text of a state, with a last line that has the number and the digest of the lines before it (SHA-256, FIPS
-- 180-4), and the meaning of such a text.
use Rattle.std.specs.Prelude.{ℕ, ◌+◌, ◌==◌, Bool, true, false, List, [], ◌∷◌, ◌++◌, length, Option, Some, None, Result, Ok, Err, if◌then◌else◌}
use Rattle.std.specs.List.{flat_map, slice_split}
use Rattle.std.specs.Option.{option_map_or}
use Rattle.hex.specs.Hex.{encode_lower}
use Rattle.sha2.specs.Sha256.{sha256}
use Rattle.drf_role.specs.Text.{same_text}
use Rattle.drf_rows.specs.LimitNumbers.{LimitNumbers}
use Rattle.drf_rows.specs.declared.rows.Rows.{Rows}
use Rattle.drf_saved.specs.Saved.{saved_rows, head_of, begun, with_row, head_fault, row_fault}
use Rattle.drf_saved.specs.declared.fault.RowFault.{RowFault}
use Rattle.drf_saved.specs.declared.fault.RowFault.TheVariants.{OutOfOrder}
use Rattle.drf_saved.specs.declared.saved.SavedRow.{SavedRow}
use Rattle.drf_saved.specs.declared.saved.StateLine.{StateLine}
use Rattle.drf_saved.specs.declared.saved.StateLine.TheVariants as says
use Rattle.drf_lines.specs.StateLine.{head_line, row_line, end_line}
use Rattle.drf_lines.specs.StateMeaning.{state_line_meaning}
use Rattle.drf_lines.specs.declared.fault.LineFault.{LineFault}
use Rattle.drf_state.specs.declared.fault.StateFault.{StateFault}
use Rattle.drf_state.specs.declared.fault.StateFault.TheVariants.{Line, NotWritten, Row, BadEnd}

-- ---- the written form

-- a line with its line feed
abbrev pub ended : List ℕ → List ℕ
ended line = line ++ 10 ∷ []

-- the last line after a text with this number of lines
abbrev pub closing : List ℕ → ℕ → List ℕ
closing text lines = end_line lines (encode_lower (sha256 text))

-- the lines of rows, one after another
abbrev pub rows_text : List SavedRow → List ℕ
rows_text rows = flat_map (λ row. ended (row_line row)) rows

-- all lines but the last
abbrev pub body_text : Rows → List ℕ
body_text rows = ended (head_line (head_of rows)) ++ rows_text (saved_rows rows)

-- the number of lines in the body
abbrev pub lines_before : Rows → ℕ
lines_before rows = 1 + length (saved_rows rows)

-- the text of a state
unfoldable pub state_text : Rows → List ℕ
state_text rows = body_text rows ++ ended (closing (body_text rows) (lines_before rows))

-- ---- the meaning of a text

-- the line is in normal form: its content would be written as exactly this line; the last line is checked elsewhere
abbrev pub is_written : List ℕ → StateLine → Bool
is_written line (says.Head head) = same_text line (head_line head)
is_written line (says.Row row) = same_text line (row_line row)
is_written line says.End = true

abbrev pub if_written : List ℕ → StateLine → Result StateLine StateFault
if_written line said = if is_written line said then Ok said else Err NotWritten

abbrev pub said_or : List ℕ → Result StateLine LineFault → Result StateLine StateFault
said_or line (Ok said) = if_written line said
said_or line (Err fault) = Err (Line fault)

-- the content of a line in normal form
unfoldable pub said_by : List ℕ → Result StateLine StateFault
said_by line = said_or line (state_line_meaning line)

abbrev pub rows_or : Option RowFault → Rows → Result Rows StateFault
rows_or None rows = Ok rows
rows_or (Some fault) rows = Err (Row fault)

-- the rows after the first line
abbrev pub rows_begun : LimitNumbers → Result StateLine StateFault → Result Rows StateFault
rows_begun limits (Ok (says.Head head)) = rows_or (head_fault limits head) (begun head)
rows_begun limits (Ok (says.Row row)) = Err (Row OutOfOrder)
rows_begun limits (Ok says.End) = Err (Row OutOfOrder)
rows_begun limits (Err fault) = Err fault

-- the rows after a later line, or none if it is the last line; `text` is everything before it, and has `lines` lines
abbrev pub rows_behind : LimitNumbers → List ℕ → ℕ → Rows → List ℕ → Result StateLine StateFault → Result (Option Rows) StateFault
rows_behind limits text lines rows line (Ok (says.Head head)) = Err (Row OutOfOrder)
rows_behind limits text lines rows line (Ok (says.Row row)) =
    option_map_or (λ fault. Err (Row fault)) (row_fault limits rows row) (Ok (Some (with_row rows row)))
rows_behind limits text lines rows line (Ok says.End) = if same_text line (closing text lines) then Ok None else Err BadEnd
rows_behind limits text lines rows line (Err fault) = Err fault

-- nothing comes after the last line feed; the parts are those between line feeds
abbrev pub is_at_end : List (List ℕ) → Bool
is_at_end ([] ∷ []) = true
is_at_end parts = false

-- the rows of a state, or the number and first error of the first wrong line; if the last line is missing, that of the
-- missing line
abbrev pub Said : Type 0
Said = Result Rows (ℕ × StateFault)

abbrev pub whole_if : Bool → ℕ → Rows → Said
whole_if true lines rows = Ok rows
whole_if false lines rows = Err (lines + 1, Row OutOfOrder)

-- the meaning of a text whose next line, with this number, adds a row, ends the text or is wrong
abbrev pub says_behind : ℕ → Rows → Bool → (Rows → Said) → Result (Option Rows) StateFault → Said
says_behind line rows is_last more (Ok (Some new)) = more new
says_behind line rows is_last more (Ok None) = whole_if is_last line rows
says_behind line rows is_last more (Err fault) = Err (line, fault)

-- the meaning of the rest of a text after this number of lines, which gave these rows
abbrev pub rest_says : LimitNumbers → List ℕ → ℕ → Rows → List (List ℕ) → Said
rest_says limits text lines rows [] = Err (lines + 1, Row OutOfOrder)
rest_says limits text lines rows (part ∷ []) = Err (lines + 1, Row OutOfOrder)
rest_says limits text lines rows (line ∷ next ∷ parts) =
    says_behind (lines + 1) rows (is_at_end (next ∷ parts))
    (λ new. rest_says limits (text ++ ended line) (lines + 1) new (next ∷ parts))
    (rows_behind limits text lines rows line (said_by line))

-- the meaning of a text whose first line gives rows or is wrong
abbrev pub says_first : (Rows → Said) → Result Rows StateFault → Said
says_first more (Ok rows) = more rows
says_first more (Err fault) = Err (1, fault)

abbrev pub parts_say : LimitNumbers → List (List ℕ) → Said
parts_say limits [] = Err (1, Row OutOfOrder)
parts_say limits (part ∷ []) = Err (1, Row OutOfOrder)
parts_say limits (line ∷ next ∷ parts) =
    says_first (λ rows. rest_says limits (ended line) 1 rows (next ∷ parts)) (rows_begun limits (said_by line))

-- the meaning of a text under these capacities: the rows of a state, or the first error
unfoldable pub state_in : LimitNumbers → List ℕ → Said
state_in limits text = parts_say limits (slice_split (λ b. b == 10) text)
