use Rattle.std.proofs.Common.{◌≡◌, ℕ, ◌≤◌, [], get_or, length, map, max, string_bytes, take}
use Rattle.drf_show.proofs.aligned.widen.Given as goal

-- each column is as wide as before, or as wide as its cell if that is wider
abbrev pub invariant-loop-column : goal.invariant-loop-column
invariant-loop-column l =
    ((q : ℕ) → get_or l.widths.items q 0 ≡ max (get_or l.initial.widths.items q 0) (length (get_or (map string_bytes (take l.column l.cells)) q [])))
    × (l.column ≤ length l.widths.items)
