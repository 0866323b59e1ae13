use Rattle.std.proofs.Common.{◌≡◌, length}
use Rattle.drf_holdings.specs.ByNumber.{things_in}
use Rattle.drf_holdings.proofs.by_number.InOrderIterator.next.Given as goal

-- only free slots were passed
abbrev pub invariant-loop-slot : goal.invariant-loop-slot
invariant-loop-slot g l = things_in l.self-inside.slots.now ≡ l.fn.self

abbrev pub decreases-loop-slot : goal.decreases-loop-slot
decreases-loop-slot g l = length l.self-inside.slots.now
