use Rattle.std.proofs.Common.{◌≡◌, ◌+◌, ◌*◌, map, take, length, min, vec_capacity}
use Rattle.drf_gates.specs.filters.Index.{slot_hash, hashes_in, IsTidy}
use Rattle.drf_gates.proofs.filters.index.Index.rebuild_if_less.Given as goal

abbrev pub invariant-loop-slot : goal.invariant-loop-slot
invariant-loop-slot l = record {
  tidy : IsTidy l.self;
  hashes : hashes_in l.self ≡ map (slot_hash l.fn.self.start l.key) (take l.slot-index l.rows);
  start : l.self.start ≡ l.fn.self.start;
  heads : length l.self.heads.items ≡ min (length l.fn.self.heads.items) (2 * length l.rows + 1);
  capacity : vec_capacity l.self.links ≡ vec_capacity l.fn.self.links;
}
