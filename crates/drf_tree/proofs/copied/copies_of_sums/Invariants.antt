use Rattle.std.proofs.Common.{◌≡◌, take}
use Rattle.drf_tree.proofs.copied.copies_of_sums.Given as goal

abbrev pub invariant-loop-sum : goal.invariant-loop-sum
invariant-loop-sum l = l.copies.items ≡ take l.sum-index l.sums
