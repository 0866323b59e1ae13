use Rattle.drf_kinds.proofs.Merged.{Merging}
use Rattle.drf_kinds.proofs.ranges.merged.Given as goal

abbrev pub invariant-loop-first : goal.invariant-loop-first
invariant-loop-first l =
    Merging (record { first = l.initial.start; last = l.initial.end }) l.first-items l.first-index l.merged.items (record { first = l.start; last = l.end })
