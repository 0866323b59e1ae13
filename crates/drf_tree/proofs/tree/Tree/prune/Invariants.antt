use Rattle.std.proofs.Common.{length}
use Rattle.drf_tree.specs.Nodes.{path_at}
use Rattle.drf_tree.proofs.growth.Bare.{IsPruning}
use Rattle.drf_tree.proofs.tree.Tree.prune.Given as goal

abbrev pub invariant-loop-node : goal.invariant-loop-node
invariant-loop-node l = IsPruning l.fn.self l.self l.leaf l.node

abbrev pub decreases-loop-node : goal.decreases-loop-node
decreases-loop-node l = length (path_at l.self.places.items l.node)
