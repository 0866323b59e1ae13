use Rattle.std.proofs.Common.{drop}
use Rattle.drf_sorter.specs.Fractions.{dominant_of}
use Rattle.drf_sorter.specs.Share.{IsUnweighted}
use Rattle.drf_sorter.proofs.key.dominant_share.Given as goal

abbrev pub invariant-loop-i : goal.invariant-loop-i
invariant-loop-i g l = IsUnweighted (dominant_of (g.H.Holding.held l.holding) (drop l.i l.total)) l.dominant
