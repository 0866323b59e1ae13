use Rattle.std.proofs.Common.{subst, sym, None, slice_set}
use Rattle.drf_tree.specs.Places.{AreTaken}
use Rattle.drf_tree.proofs.growth.Place.{taken_freed}
use Rattle.drf_tree.proofs.places.Places.free.Goals as goal

pub invariant_of-self : goal.invariant_of-self
invariant_of-self c =
    let items = c.self.inside.items.items in
    subst (AreTaken (slice_set items c.args.node None)) (sym c.min-self-inside.ensures)
    (taken_freed items c.self.inside.first_free c.args.node c.self.invariant)
