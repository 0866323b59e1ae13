use Rattle.std.proofs.Common.{◌≡◌, length}
use Rattle.drf_tree.specs.Nodes.{path_at}
use Rattle.drf_tree.proofs.change.Climb.{IsClimbing}
use Rattle.drf_tree.proofs.change.Label.{AreSame, IsNamed}
use Rattle.drf_tree.proofs.tree.Tree.name_labels.Given as goal

abbrev pub invariant-loop-node : goal.invariant-loop-node
invariant-loop-node l = record {
  climb : IsClimbing l.fn.self l.self l.leaf l.node (IsNamed l.quantities);
  same : AreSame l.fn.self.sums.items l.self.sums.items;
  marks : l.self.marks ≡ l.fn.self.marks;
}

abbrev pub decreases-loop-node : goal.decreases-loop-node
decreases-loop-node l = length (path_at l.fn.self.places.items l.node)
