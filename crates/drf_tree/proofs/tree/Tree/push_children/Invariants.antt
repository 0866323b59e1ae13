use Rattle.std.proofs.Common.{◌≤◌, length}
use Rattle.drf_tree.proofs.tree.Tree.push_children.Given as goal

abbrev pub invariant-loop-child : goal.invariant-loop-child
invariant-loop-child l = l.first ≤ length l.waiting.items
