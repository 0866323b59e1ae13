use Rattle.std.proofs.Common.{◌+◌, length}
use Rattle.drf_kinds.specs.Names.{is_named}
use Rattle.drf_kinds.proofs.Names.{FoundNames}
use Rattle.drf_kinds.proofs.merge.combined.Given as goal

abbrev pub invariant-loop-side : goal.invariant-loop-side
invariant-loop-side l = FoundNames l.united (is_named l.fn.left) (is_named l.fn.right) l.left l.right l.found.items

abbrev pub decreases-loop-side : goal.decreases-loop-side
decreases-loop-side l = length l.left + length l.right
