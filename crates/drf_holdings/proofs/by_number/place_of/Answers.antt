use Rattle.std.proofs.lemmas.Bool.{ne_eqb}
use Rattle.drf_holdings.proofs.Places.{others_but}
use Rattle.drf_holdings.proofs.by_number.place_of.Goals as goal

pub returns-else-slot-number : goal.returns-else-slot-number
returns-else-slot-number g c =
    let slot = c.in_ok-slot.slot.now in
    let there = c.in_ok-slot.ensures.lookup.3 in
    others_but c.args.number c.args.slots.now c.count_below-place.result slot c.requires c.count_below-place.ensures.below c.count_below-place.ensures.rest
    there.0 (there.1 slot) (ne_eqb slot.number c.args.number c.if-slot-number.false)
