use Rattle.std.proofs.Common.{ap, arith, subst, sym, List, Option, length}
use Rattle.drf_tree.specs.declared.node.Place.{Place}
use Rattle.drf_tree.specs.Places.{AreTaken, Numbered}
use Rattle.drf_tree.proofs.growth.Place.{taken_put}
use Rattle.drf_tree.proofs.places.Places.put.Goals as goal

pub invariant_of-self : goal.invariant_of-self
invariant_of-self c =
    let is = ap (λ (n : Numbered). n.items) c.self.view_is in
    taken_put c.self.inside.items.items c.args.node c.args.place (omega (arith, c.requires.there, ap length is))
    (subst (λ (ps : List (Option Place)). AreTaken ps c.args.node) (sym is) c.requires.first)
