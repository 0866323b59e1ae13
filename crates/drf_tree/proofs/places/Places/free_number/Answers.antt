use Rattle.std.proofs.Common.{ap, subst, sym, List, Option}
use Rattle.drf_tree.specs.declared.node.Place.{Place}
use Rattle.drf_tree.specs.Places.{AreTaken, Numbered}
use Rattle.drf_tree.proofs.growth.Place.{taken_first}
use Rattle.drf_tree.proofs.places.Places.free_number.Goals as goal

pub loop-node-init : goal.loop-node-init
loop-node-init c =
    let is = ap (λ (n : Numbered). n.items) c.self.view_is in
    let places = c.args.self.now.items in
    subst (AreTaken places) (sym c.max-node.ensures)
    (taken_first places c.self.inside.first_free
    (subst (λ (ps : List (Option Place)). AreTaken ps c.self.inside.first_free) is c.self.invariant))
