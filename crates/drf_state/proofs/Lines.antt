-- Adding lines to a text.
use Rattle.std.proofs.Common.{◌≡◌, ◌+◌, List, [], ◌∷◌, ◌++◌, length, refl, sym, ap, ◌∙◌, append_assoc, append-nil, arith}
use Rattle.std.proofs.lemmas.List.{length-append}
use Rattle.drf_bundle.proofs.ListLaws.{each_append}
use Rattle.drf_saved.specs.declared.saved.SavedRow.{SavedRow}
use Rattle.drf_lines.specs.StateLine.{row_line}
use Rattle.drf_state.specs.LinedText.{LinedBytes, with_rows}
use Rattle.drf_state.specs.Read.{AreRead, IsRead}
use Rattle.drf_state.specs.State.{ended, rows_text}

pub rows_text-append : (a b : List SavedRow) → rows_text (a ++ b) ≡ rows_text a ++ rows_text b
rows_text-append [] b = refl
rows_text-append (row ∷ a) b =
    ap (λ l. ended (row_line row) ++ l) (rows_text-append a b) ∙ sym (append_assoc (ended (row_line row)) (rows_text a) (rows_text b))

pub with_rows-append : (text : LinedBytes) (a b : List SavedRow) → with_rows (with_rows text a) b ≡ with_rows text (a ++ b)
with_rows-append text a b =
    let more : (text.bytes ++ rows_text a) ++ rows_text b ≡ text.bytes ++ rows_text (a ++ b) =
    append_assoc text.bytes (rows_text a) (rows_text b) ∙ ap (λ l. text.bytes ++ l) (sym (rows_text-append a b)) in
    let count : text.lines + length a + length b ≡ text.lines + length (a ++ b) = omega (arith, length-append a b) in
    λ i. record { bytes = more i; lines = count i }

pub with_rows-none : (text : LinedBytes) → with_rows text [] ≡ text
with_rows-none text =
    let count : text.lines + length {A = SavedRow} [] ≡ text.lines = omega arith in
    λ i. record { bytes = append-nil text.bytes i; lines = count i }

pub read_append : (a b : List SavedRow) → AreRead a → AreRead b → AreRead (a ++ b)
read_append a b first second = each_append IsRead a b first second
