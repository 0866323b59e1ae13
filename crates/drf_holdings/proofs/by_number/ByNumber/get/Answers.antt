use Rattle.std.proofs.Common.{◌==◌, List, find, sym, ap, subst, ◌∙◌, arith}
use Rattle.std.proofs.lemmas.Option.{slice_get_within, get_or_from_slice_get}
use Rattle.drf_holdings.specs.ByNumber.{IsPlaceOf, slot_number}
use Rattle.drf_holdings.specs.Rising.{AreOthers}
use Rattle.drf_holdings.specs.declared.by_number.Slot.{Slot}
use Rattle.drf_holdings.proofs.Slots.{nothing_of, found_at}
use Rattle.drf_holdings.proofs.by_number.ByNumber.get.Goals as goal

pub returns-in_err-place : goal.returns-in_err-place
returns-in_err-place g c =
    let number = g.T.Numbered.number in
    let n = c.args.number in
    let others = subst (λ (ss : List (Slot g.row.T.Denot)). AreOthers slot_number n ss) c.deref.ensures.value c.in_err-place.ensures in
    rw c.from_residual.ensures (
    sym (ap (find (λ x. number x == n)) (sym c.self.view_is) ∙ nothing_of number n c.self.inside.slots.items c.self.invariant.under others))

pub index-requires : goal.index-requires
index-requires g c =
    let slots = c.self.inside.slots in
    let its = subst (λ (ss : List (Slot g.row.T.Denot)). IsPlaceOf c.args.number ss c.in_ok-place.place) c.deref.ensures.value c.in_ok-place.ensures in
    omega (arith, slice_get_within slots.items c.in_ok-place.place its.slot its.at, slots.ok.0)

pub returns : goal.returns
returns g c =
    let number = g.T.Numbered.number in
    let slots = c.self.inside.slots in
    let its = subst (λ (ss : List (Slot g.row.T.Denot)). IsPlaceOf c.args.number ss c.in_ok-place.place) c.deref.ensures.value c.in_ok-place.ensures in
    let read = c.index.ensures ∙ get_or_from_slice_get slots.items c.in_ok-place.place its.slot c.index.result.now its.at in
    c.as_ref.ensures.value
    ∙ ap (λ (s : Slot g.row.T.Denot). s.thing) read
    ∙ sym (found_at number c.args.number slots.items c.in_ok-place.place its.slot its.at its.its c.self.invariant.under c.self.invariant.rising)
    ∙ ap (find (λ x. number x == c.args.number)) c.self.view_is
