use Rattle.std.proofs.Common.{◌≡◌, take}
use Rattle.drf_rows.proofs.copied.copy_all.Given as goal

abbrev pub invariant-loop-row : goal.invariant-loop-row
invariant-loop-row g l = l.copies.items ≡ take l.row-index l.rows
