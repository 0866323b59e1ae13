use Rattle.std.proofs.Common.{◌+◌, length}
use Rattle.drf_bundle.proofs.MergeLemmas.{Walked}
use Rattle.drf_bundle.proofs.merge.have_clash.Given as goal

-- what was passed does not clash, and what remains is in order
abbrev pub invariant-loop-ordering : goal.invariant-loop-ordering
invariant-loop-ordering l = Walked l.fn.clash l.left l.right l.fn.left l.fn.right

abbrev pub decreases-loop-ordering : goal.decreases-loop-ordering
decreases-loop-ordering l = length l.left + length l.right
