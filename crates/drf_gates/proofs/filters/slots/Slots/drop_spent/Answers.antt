use Rattle.std.proofs.Common.{◌<◌, true, false, length, not, refl, sym, ◌∙◌, arith}
use Rattle.drf_rows.specs.Filters.{is_in_force}
use Rattle.drf_gates.specs.filters.Slots.{filters_in}
use Rattle.drf_gates.proofs.filters.Held.{swept-start, swept-more, swept-all, not_not}
use Rattle.drf_gates.proofs.filters.slots.Slots.drop_spent.Goals.{then-is_slot_spent, else-is_slot_spent}
use Rattle.drf_gates.proofs.filters.slots.Slots.drop_spent.Goals as goal

pub loop-place-init : goal.loop-place-init
loop-place-init c = swept-start (λ f. not (is_in_force c.args.now f)) c.args.self.now 8 c.requires

pub loop-place-preserved : goal.loop-place-preserved
loop-place-preserved c =
    let swept = swept-more (λ f. not (is_in_force c.args.now f)) c.args.self.now c.loop-place.self in
    let within : c.loop-place.place < length c.args.self.now.rows.items = omega (arith, c.loop-place-test.true, c.len-place-end.ensures) in
    let inv = c.loop-place.invariant in
    elim c.if-is_slot_spent.branch [
      | then-is_slot_spent w ↦
          rw (w.self-is, w.few-is) (swept w.leave-few.new.self c.loop-place.place c.loop-place.few w.leave-few.result c.index.result.now true within inv c.index.ensures
          (sym w.if-is_slot_spent.true ∙ c.is_slot_spent.ensures) w.leave-few.ensures.rows w.leave-few.ensures.marked w.leave-few.ensures.tidy)
      | else-is_slot_spent w ↦
          rw (w.self-is, w.few-is) (swept c.loop-place.self c.loop-place.place c.loop-place.few c.loop-place.few c.index.result.now false within inv c.index.ensures
          (sym w.if-is_slot_spent.false ∙ c.is_slot_spent.ensures) refl inv.marked inv.tidy)
    ]

pub returns-clause-others : goal.returns-clause-others
returns-clause-others c =
    c.close_free_slots_if_many.ensures.same
    ∙ c.chain_if_many.ensures.same
    ∙ swept-all (λ f. not (is_in_force c.args.now f)) c.args.self.now c.loop-place.self c.loop-place.place c.loop-place.few (omega (arith, c.loop-place-test.false, c.len-place-end.ensures)) c.loop-place.invariant ∙ not_not (is_in_force c.args.now) (filters_in c.args.self.now)
