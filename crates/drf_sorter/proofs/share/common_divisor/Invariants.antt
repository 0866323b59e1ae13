use Rattle.std.proofs.Common.{ℕ}
use Rattle.std.specs.Int.{IsGcd}
use Rattle.drf_sorter.proofs.share.common_divisor.Given as goal

-- the greatest common divisor of the current two numbers is that of the two arguments
abbrev pub invariant-loop-next : goal.invariant-loop-next
invariant-loop-next l = (g : ℕ) → IsGcd l.divisor l.next g → IsGcd l.fn.part l.fn.whole g

abbrev pub decreases-loop-next : goal.decreases-loop-next
decreases-loop-next l = l.next
