use Rattle.std.proofs.Common.{◌≡◌, true, take}
use Rattle.drf_tree.specs.Nodes.{is_node, path_at}
use Rattle.drf_tree.proofs.tree.Tree.find.Given as goal

abbrev pub invariant-loop-i : goal.invariant-loop-i
invariant-loop-i g l =
    (is_node l.self.places.items l.node ≡ true) × (path_at l.self.places.items l.node ≡ take l.i (g.R.Route.parts l.route))
