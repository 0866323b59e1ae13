use Rattle.std.proofs.Common.{◌≡◌, length, take}
use Rattle.drf_hash.specs.Slots.{filled, ranks_of}
use Rattle.drf_hash.proofs.free_slots.ranks.Given as goal

abbrev pub invariant-loop-slot : goal.invariant-loop-slot
invariant-loop-slot g l = record {
  ranks : l.ranks.items ≡ ranks_of 0 (take l.slot-index l.slots);
  count : l.count ≡ length (filled (take l.slot-index l.slots));
}
