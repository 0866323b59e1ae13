use Rattle.std.proofs.Common.{◌≡◌, ◌+◌, ◌*◌, length, min, vec_capacity}
use Rattle.drf_gates.specs.filters.Index.{hashes_in, IsTidyTo}
use Rattle.drf_gates.proofs.filters.index.Index.chain_all.Given as goal

abbrev pub invariant-loop-place : goal.invariant-loop-place
invariant-loop-place l = record {
  tidy : IsTidyTo l.place l.self;
  hashes : hashes_in l.self ≡ hashes_in l.fn.self;
  heads : length l.self.heads.items ≡ min (length l.fn.self.heads.items) (2 * length l.fn.self.links.items + 1);
  start : l.self.start ≡ l.fn.self.start;
  capacity : vec_capacity l.self.links ≡ vec_capacity l.fn.self.links;
}
