use Rattle.std.proofs.Common.{◌+◌, length}
use Rattle.drf_kinds.specs.Intervals.{is_in}
use Rattle.drf_kinds.specs.Sets.{is_kept}
use Rattle.drf_kinds.proofs.Found.{Found}
use Rattle.drf_kinds.proofs.sweep.combined.Given as goal

abbrev pub invariant-loop-place : goal.invariant-loop-place
invariant-loop-place l = Found (is_kept l.united) (is_in l.fn.left) (is_in l.fn.right) l.left l.right l.found.items l.start l.inside

abbrev pub decreases-loop-place : goal.decreases-loop-place
decreases-loop-place l = length l.left.places + length l.right.places
