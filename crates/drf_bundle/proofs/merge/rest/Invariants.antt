use Rattle.std.proofs.Common.{◌+◌, length}
use Rattle.drf_bundle.specs.Bundle.{rest}
use Rattle.drf_bundle.proofs.RestLemmas.{IsRestOf}
use Rattle.drf_bundle.proofs.merge.rest.Given as goal

-- the rest found so far and the rest of the remaining resources make the whole rest
abbrev pub invariant-loop-side : goal.invariant-loop-side
invariant-loop-side l = IsRestOf l.left l.whole l.part (rest l.fn.whole l.fn.part)

abbrev pub decreases-loop-side : goal.decreases-loop-side
decreases-loop-side l = length l.whole + length l.part
