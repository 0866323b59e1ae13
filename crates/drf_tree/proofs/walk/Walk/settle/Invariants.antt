use Rattle.std.proofs.Common.{◌≡◌}
use Rattle.drf_tree.proofs.Names.{Content, family_at, AreFrames, frames_queue, most_parts, IsTreeOf}
use Rattle.drf_tree.proofs.walk.Frames.{left}
use Rattle.drf_tree.proofs.walk.Walk.settle.Given as goal

abbrev pub invariant-loop-frame : goal.invariant-loop-frame
invariant-loop-frame l = record {
  frames : AreFrames l.tree.places.items l.self.frames.items;
  queue : (content : Content) → IsTreeOf content l.tree
      → frames_queue content l.tree l.self.frames.items ≡ frames_queue content l.tree l.fn.self.frames.items;
}

abbrev pub decreases-loop-frame : goal.decreases-loop-frame
decreases-loop-frame l = left (family_at l.tree.families.items) most_parts l.self.frames.items
