use Rattle.std.proofs.Common.{◌≡◌, take}
use Rattle.drf_kinds.proofs.merge.copies.Given as goal

abbrev pub invariant-loop-label : goal.invariant-loop-label
invariant-loop-label l = l.copies.items ≡ take l.label-index l.labels
