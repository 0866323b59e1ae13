use Rattle.std.proofs.Common.{◌≡◌, ◌++◌, drop, get_or, map, string_bytes}
use Rattle.drf_show.specs.Aligned.{cells_text}
use Rattle.drf_show.proofs.aligned.push_cells.Given as goal

-- the text so far, followed by the remaining cells, is the text of all cells
abbrev pub invariant-loop-column : goal.invariant-loop-column
invariant-loop-column l =
    l.text.items ++ cells_text (λ q. get_or l.widths q 0) l.column (map string_bytes (drop l.column l.cells))
    ≡ l.initial.text.items ++ cells_text (λ q. get_or l.widths q 0) 0 (map string_bytes l.cells)
