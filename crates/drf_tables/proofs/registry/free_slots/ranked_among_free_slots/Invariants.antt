use Rattle.std.proofs.Common.{◌≡◌, ◌≤◌, length, take}
use Rattle.drf_hash.specs.Slots.{filled}
use Rattle.drf_tables.proofs.registry.free_slots.ranked_among_free_slots.Given as goal

abbrev pub invariant-loop-place : goal.invariant-loop-place
invariant-loop-place g l = record {
  before : l.before ≡ length (filled (take l.place l.slots));
  few : l.before ≤ l.number;
}
