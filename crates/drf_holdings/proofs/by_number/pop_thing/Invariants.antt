use Rattle.std.proofs.Common.{◌≡◌, length}
use Rattle.drf_holdings.specs.ByNumber.{things_in, KeepsOrder}
use Rattle.drf_holdings.proofs.by_number.pop_thing.Given as goal

abbrev pub invariant-loop-slot : goal.invariant-loop-slot
invariant-loop-slot g l = record {
  things : things_in l.slots.items ≡ things_in l.fn.slots.items;
  order : KeepsOrder l.fn.slots.items l.slots.items;
}

abbrev pub decreases-loop-slot : goal.decreases-loop-slot
decreases-loop-slot g l = length l.slots.items
