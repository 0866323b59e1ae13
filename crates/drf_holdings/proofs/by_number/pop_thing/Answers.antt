use Rattle.std.proofs.Common.{refl, sym, ◌∙◌}
use Rattle.drf_holdings.proofs.Slots.{order_same}
use Rattle.drf_holdings.proofs.Slotted.{order_off, free_slot_off, thing_off}
use Rattle.drf_holdings.proofs.by_number.pop_thing.Goals as goal

pub loop-slot-init : goal.loop-slot-init
loop-slot-init g c = record { things = refl; order = order_same c.args.slots.now.items }

pub loop-slot-preserved : goal.loop-slot-preserved
loop-slot-preserved g c =
    let first = c.args.slots.now.items in
    let at = c.loop-slot in
    let left = c.pop.new.self.items in
    record {
      things = free_slot_off first at.slots.items left c.in-Some.slot c.in-Some.ensures.items at.invariant.things at.invariant.order
          (sym c.in_default-into_thing.is ∙ c.into_thing.ensures);
      order = order_off first at.slots.items left c.in-Some.slot c.in-Some.ensures.items at.invariant.things at.invariant.order;
    }

pub returns-in-Some-into_thing-clause-things : goal.returns-in-Some-into_thing-clause-things
returns-in-Some-into_thing-clause-things g c =
    let at = c.loop-slot in
    thing_off c.args.slots.now.items at.slots.items c.pop.new.self.items c.in-Some.slot c.in-Some.ensures.items at.invariant.things
    at.invariant.order c.in-Some-into_thing.thing (sym c.in-Some-into_thing.is ∙ c.into_thing.ensures)

pub returns-in-Some-into_thing-clause-order : goal.returns-in-Some-into_thing-clause-order
returns-in-Some-into_thing-clause-order g c =
    let at = c.loop-slot in
    order_off c.args.slots.now.items at.slots.items c.pop.new.self.items c.in-Some.slot c.in-Some.ensures.items at.invariant.things at.invariant.order
