use Rattle.std.proofs.Common.{◌+◌, length}
use Rattle.drf_kinds.specs.Intervals.{is_in}
use Rattle.drf_kinds.proofs.Steps.{Unmet}
use Rattle.drf_kinds.proofs.sweep.meets.Given as goal

abbrev pub invariant-loop-place : goal.invariant-loop-place
invariant-loop-place l = Unmet l.inside (is_in l.fn.left) (is_in l.fn.right) l.left l.right

abbrev pub decreases-loop-place : goal.decreases-loop-place
decreases-loop-place l = length l.left.places + length l.right.places
