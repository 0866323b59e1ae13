use Rattle.std.proofs.Common.{◌≡◌, length}
use Rattle.drf_tree.specs.Nodes.{path_at}
use Rattle.drf_tree.proofs.change.Climb.{IsClimbing}
use Rattle.drf_tree.proofs.sums.Move.{IsMoved, none, of_newcomer}
use Rattle.drf_tree.proofs.tree.Tree.admit.Given as goal

abbrev pub invariant-loop-node : goal.invariant-loop-node
invariant-loop-node l =
    IsClimbing l.fn.self l.self l.leaf l.node (λ i. IsMoved none of_newcomer) × (l.self.marks ≡ l.fn.self.marks)

abbrev pub decreases-loop-node : goal.decreases-loop-node
decreases-loop-node l = length (path_at l.fn.self.places.items l.node)
