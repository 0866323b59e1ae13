use Rattle.std.proofs.Common.{◌≡◌, ◌++◌, get_or, take}
use Rattle.std.specs.List.{flat_map}
use Rattle.drf_show.specs.Aligned.{row_text}
use Rattle.drf_show.proofs.aligned.push_rows.Given as goal

abbrev pub invariant-loop-row : goal.invariant-loop-row
invariant-loop-row l =
    l.text.items ≡ l.initial.text.items ++ flat_map (row_text (λ q. get_or l.widths q 0)) (take l.row-index l.rows)
