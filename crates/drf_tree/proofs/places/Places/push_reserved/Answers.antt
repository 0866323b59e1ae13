use Rattle.std.proofs.Common.{subst, sym, List, Option}
use Rattle.drf_tree.specs.declared.node.Place.{Place}
use Rattle.drf_tree.specs.Places.{AreTaken}
use Rattle.drf_tree.proofs.growth.Place.{taken_pushed}
use Rattle.drf_tree.proofs.places.Places.push_reserved.Goals as goal

pub invariant_of-self : goal.invariant_of-self
invariant_of-self c =
    let first = c.self.inside.first_free in
    subst (λ (ps : List (Option Place)). AreTaken ps first) (sym c.push_reserved.ensures.items)
    (taken_pushed c.self.inside.items.items first c.self.invariant)
