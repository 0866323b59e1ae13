use Rattle.std.proofs.Common.{◌<◌, ◌≤◌, List, not, nat_lt, filter, take, drop, ap, subst, ◌∙◌}
use Rattle.std.specs.List.{AllByRecursion}
use Rattle.std.proofs.lemmas.List.{take_rest}
use Rattle.drf_holdings.specs.ByNumber.{things_in}
use Rattle.drf_holdings.specs.declared.by_number.Slot.{Slot}
use Rattle.drf_holdings.proofs.Slots.{things_from}
use Rattle.drf_holdings.proofs.by_number.ByNumber.from.Goals as goal

pub returns : goal.returns
returns g c =
    let number = c.args.number in
    let place = c.count_below-place.result in
    ap (λ (ss : List (Slot g.row.T.Denot)). things_in ss) (take_rest c.deref-2.result.now place)
    ∙ ap (λ (ss : List (Slot g.row.T.Denot)). things_in (drop place ss)) c.deref-2.ensures.value
    ∙ things_from g.T.Numbered.number number c.self.inside.slots.items place c.self.invariant.under
    (subst (λ (ss : List (Slot g.row.T.Denot)). AllByRecursion (λ s. s.number < number) (take place ss)) c.deref.ensures.value c.count_below-place.ensures.below)
    (subst (λ (ss : List (Slot g.row.T.Denot)). AllByRecursion (λ s. number ≤ s.number) (drop place ss)) c.deref.ensures.value c.count_below-place.ensures.rest)
    ∙ ap (filter (λ x. not (nat_lt (g.T.Numbered.number x) number))) c.self.view_is
