use Rattle.drf_tree.specs.Places.{AreTaken}
use Rattle.drf_tree.proofs.places.Places.free_number.Given as goal

abbrev pub invariant-loop-node : goal.invariant-loop-node
invariant-loop-node l = AreTaken l.self.items l.node
