use Rattle.std.proofs.Common.{◌≡◌, ◌+◌, ◌++◌, length}
use Rattle.drf_bundle.specs.Bundle.{merged}
use Rattle.drf_bundle.specs.Sides.{FitTogether}
use Rattle.drf_bundle.proofs.merge.merged.Given as goal

-- what was found and the merge of what remains make the whole, and what remains fits together
abbrev pub invariant-loop-side : goal.invariant-loop-side
invariant-loop-side l = (l.found ++ merged l.left l.right ≡ merged l.fn.left l.fn.right) × FitTogether l.left l.right

abbrev pub decreases-loop-side : goal.decreases-loop-side
decreases-loop-side l = length l.left + length l.right
