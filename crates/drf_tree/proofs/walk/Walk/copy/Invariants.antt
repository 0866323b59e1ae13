use Rattle.std.proofs.Common.{◌≡◌, ◌≤◌, take}
use Rattle.std.specs.Vec.{vec_capacity}
use Rattle.drf_tree.proofs.walk.Walk.copy.Given as goal

abbrev pub invariant-loop-frame : goal.invariant-loop-frame
invariant-loop-frame l = record {
  items : l.frames.items ≡ take l.frame-index l.self.frames.items;
  room : 11 ≤ vec_capacity l.frames;
}
