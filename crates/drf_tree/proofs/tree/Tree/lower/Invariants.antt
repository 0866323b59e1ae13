use Rattle.std.proofs.Common.{length}
use Rattle.drf_tree.specs.Nodes.{path_at}
use Rattle.drf_tree.proofs.change.Climb.{IsClimbing, IsMarking}
use Rattle.drf_tree.proofs.change.Lower.{of_lowered}
use Rattle.drf_tree.proofs.sums.Move.{IsMoved, none}
use Rattle.drf_tree.proofs.tree.Tree.lower.Given as goal

abbrev pub invariant-loop-node : goal.invariant-loop-node
invariant-loop-node l =
    IsClimbing l.fn.self l.self l.leaf l.node (λ i. IsMoved (of_lowered l.quantities l.offers) none)
    × IsMarking l.fn.self l.self l.leaf l.node

abbrev pub decreases-loop-node : goal.decreases-loop-node
decreases-loop-node l = length (path_at l.fn.self.places.items l.node)
