use Rattle.std.proofs.Common.{◌≡◌, take}
use Rattle.std.specs.List.{sum_by}
use Rattle.drf_kinds.proofs.Members.{size_of}
use Rattle.drf_kinds.proofs.ranges.RangesAlgebra.amount.Given as goal

abbrev pub invariant-loop-interval : goal.invariant-loop-interval
invariant-loop-interval l = l.amount ≡ sum_by size_of (take l.interval-index l.interval-items)
