use Rattle.std.proofs.Common.{◌≡◌, ℕ, get_or, take}
use Rattle.drf_show.specs.Aligned.{width_at}
use Rattle.drf_show.proofs.aligned.widths_of.Given as goal

abbrev pub invariant-loop-row : goal.invariant-loop-row
invariant-loop-row l = (q : ℕ) → get_or l.widths.items q 0 ≡ width_at (take l.row-index l.rows) q
