use Rattle.std.proofs.Common.{◌≡◌, take}
use Rattle.drf_sorter.proofs.weights.Weights.copy.Given as goal

abbrev pub invariant-loop-row : goal.invariant-loop-row
invariant-loop-row l = l.rows.items ≡ take l.row-index l.self.rows.items
