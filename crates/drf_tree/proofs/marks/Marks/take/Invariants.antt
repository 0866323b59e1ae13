use Rattle.std.specs.Prelude.{◌≡◌, length}
use Rattle.std.specs.Vec.{vec_capacity}
use Rattle.drf_tree.specs.Marks.{AreWaiting}
use Rattle.drf_tree.proofs.marks.Marks.take.Given as goal

abbrev pub invariant-loop-node : goal.invariant-loop-node
invariant-loop-node l = record {
  kept : AreWaiting l.self-inside.stale.items l.self-inside.listed.items l.self-inside.waiting.items (vec_capacity l.self-inside.waiting);
  stale : l.self-inside.stale.items ≡ l.fn.self.stale;
  made : l.self-inside.made ≡ l.fn.self.made;
}

abbrev pub decreases-loop-node : goal.decreases-loop-node
decreases-loop-node l = length l.self-inside.waiting.items
