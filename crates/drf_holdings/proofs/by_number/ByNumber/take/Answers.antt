use Rattle.std.proofs.Common.{◌==◌, ◌-◌, List, find, set, sym, ap, subst, ◌∙◌, arith}
use Rattle.std.proofs.lemmas.Option.{slice_get_within}
use Rattle.drf_holdings.specs.ByNumber.{IsByNumber, IsPlaceOf, slot_number, things_in}
use Rattle.drf_holdings.specs.Rising.{AreOthers}
use Rattle.drf_holdings.specs.Taking.{IsTaken, HasNone}
use Rattle.drf_holdings.specs.declared.by_number.Slot.{Slot}
use Rattle.drf_holdings.proofs.Slots.{nothing_of, none_of}
use Rattle.drf_holdings.proofs.Slotted.{found_here, same_here, none_here, taken_here, some_here, kept_here, kept_same}
use Rattle.drf_holdings.proofs.by_number.ByNumber.take.Goals as goal

pub returns-in_err-place-clause-found : goal.returns-in_err-place-clause-found
returns-in_err-place-clause-found g c =
    let number = g.T.Numbered.number in
    let n = c.args.number in
    let others = subst (λ (ss : List (Slot g.row.T.Denot)). AreOthers slot_number n ss) c.deref.ensures.value c.in_err-place.ensures in
    rw c.from_residual.ensures (
    sym (ap (find (λ x. number x == n)) (sym c.self.view_is) ∙ nothing_of number n c.self.inside.slots.items c.self.invariant.under others))

pub returns-in_err-place-clause-taken : goal.returns-in_err-place-clause-taken
returns-in_err-place-clause-taken g c =
    let number = g.T.Numbered.number in
    let n = c.args.number in
    let others = subst (λ (ss : List (Slot g.row.T.Denot)). AreOthers slot_number n ss) c.deref.ensures.value c.in_err-place.ensures in
    rw c.from_residual.ensures (subst (λ (xs : List g.row.T.Denot). HasNone (λ x. number x == n) xs xs) c.self.view_is
    (none_of number n c.self.inside.slots.items c.self.invariant.under others))

pub index_mut-requires : goal.index_mut-requires
index_mut-requires g c =
    let slots = c.self.inside.slots in
    let its = subst (λ (ss : List (Slot g.row.T.Denot)). IsPlaceOf c.args.number ss c.in_ok-place.place) c.deref.ensures.value c.in_ok-place.ensures in
    omega (arith, slice_get_within slots.items c.in_ok-place.place its.slot its.at, slots.ok.0)

pub invariant_of-self : goal.invariant_of-self
invariant_of-self g c =
    let number = g.T.Numbered.number in
    let slots = c.self.inside.slots.items in
    let place = c.in_ok-place.place in
    let its = subst (λ (ss : List (Slot g.row.T.Denot)). IsPlaceOf c.args.number ss place) c.deref.ensures.value c.in_ok-place.ensures in
    subst (λ (ss : List (Slot g.row.T.Denot)). IsByNumber number ss c.self.inside.count)
    (sym (same_here number c.args.number slots place c.self.inside.count its c.self.invariant c.index_mut.result.now c.index_mut.ensures.value
    c.empty.new.self c.empty.ensures.free_slot c.in_err-thing.ensures.thing))
    c.self.invariant

pub returns-in_err-thing-clause-found : goal.returns-in_err-thing-clause-found
returns-in_err-thing-clause-found g c =
    let number = g.T.Numbered.number in
    let slots = c.self.inside.slots.items in
    let place = c.in_ok-place.place in
    let its = subst (λ (ss : List (Slot g.row.T.Denot)). IsPlaceOf c.args.number ss place) c.deref.ensures.value c.in_ok-place.ensures in
    c.from_residual-in_err-thing.ensures
    ∙ c.in_err-thing.ensures.thing
    ∙ sym (found_here number c.args.number slots place c.self.inside.count its c.self.invariant c.index_mut.result.now c.index_mut.ensures.value)
    ∙ ap (find (λ x. number x == c.args.number)) c.self.view_is

pub returns-in_err-thing-clause-taken : goal.returns-in_err-thing-clause-taken
returns-in_err-thing-clause-taken g c =
    let number = g.T.Numbered.number in
    let slots = c.self.inside.slots.items in
    let place = c.in_ok-place.place in
    let its = subst (λ (ss : List (Slot g.row.T.Denot)). IsPlaceOf c.args.number ss place) c.deref.ensures.value c.in_ok-place.ensures in
    let none =
    none_here number c.args.number slots place c.self.inside.count its c.self.invariant c.index_mut.result.now c.index_mut.ensures.value
    c.empty.new.self c.empty.ensures.free_slot c.in_err-thing.ensures.thing in
    rw c.from_residual-in_err-thing.ensures (
    subst (λ (xs : List g.row.T.Denot). HasNone (λ x. number x == c.args.number) xs (things_in (set slots place c.empty.new.self))) c.self.view_is none)

pub overflow_sub-self : goal.overflow_sub-self
overflow_sub-self g c =
    let slots = c.self.inside.slots.items in
    let place = c.in_ok-place.place in
    let its = subst (λ (ss : List (Slot g.row.T.Denot)). IsPlaceOf c.args.number ss place) c.deref.ensures.value c.in_ok-place.ensures in
    some_here g.T.Numbered.number c.args.number slots place c.self.inside.count its c.self.invariant c.index_mut.result.now c.index_mut.ensures.value
    c.empty.new.self c.empty.ensures.free_slot c.in_ok-thing.thing c.in_ok-thing.ensures.thing

pub invariant_of-self-2 : goal.invariant_of-self-2
invariant_of-self-2 g c =
    let number = g.T.Numbered.number in
    let slots = c.self.inside.slots.items in
    let place = c.in_ok-place.place in
    let its = subst (λ (ss : List (Slot g.row.T.Denot)). IsPlaceOf c.args.number ss place) c.deref.ensures.value c.in_ok-place.ensures in
    kept_same number (set slots place c.empty.new.self) c.close_up_if_many.new.slots.items (c.self.inside.count - 1)
    c.close_up_if_many.ensures.order
    (kept_here number c.args.number slots place c.self.inside.count its c.self.invariant c.index_mut.result.now c.index_mut.ensures.value
    c.empty.new.self c.empty.ensures.free_slot c.in_ok-thing.thing c.in_ok-thing.ensures.thing)
    c.close_up_if_many.ensures.things

pub returns-clause-found : goal.returns-clause-found
returns-clause-found g c =
    let number = g.T.Numbered.number in
    let slots = c.self.inside.slots.items in
    let place = c.in_ok-place.place in
    let its = subst (λ (ss : List (Slot g.row.T.Denot)). IsPlaceOf c.args.number ss place) c.deref.ensures.value c.in_ok-place.ensures in
    c.in_ok-thing.ensures.thing
    ∙ sym (found_here number c.args.number slots place c.self.inside.count its c.self.invariant c.index_mut.result.now c.index_mut.ensures.value)
    ∙ ap (find (λ x. number x == c.args.number)) c.self.view_is

pub returns-clause-taken : goal.returns-clause-taken
returns-clause-taken g c =
    let number = g.T.Numbered.number in
    let slots = c.self.inside.slots.items in
    let place = c.in_ok-place.place in
    let its = subst (λ (ss : List (Slot g.row.T.Denot)). IsPlaceOf c.args.number ss place) c.deref.ensures.value c.in_ok-place.ensures in
    let taken =
    taken_here number c.args.number slots place c.self.inside.count its c.self.invariant c.index_mut.result.now c.index_mut.ensures.value
    c.empty.new.self c.empty.ensures.free_slot c.in_ok-thing.thing c.in_ok-thing.ensures.thing in
    subst (λ (xs : List g.row.T.Denot). IsTaken (λ x. number x == c.args.number) c.args.self.now xs c.in_ok-thing.thing) (sym c.close_up_if_many.ensures.things)
    (subst (λ (xs : List g.row.T.Denot). IsTaken (λ x. number x == c.args.number) xs (things_in (set slots place c.empty.new.self)) c.in_ok-thing.thing)
    c.self.view_is taken)
