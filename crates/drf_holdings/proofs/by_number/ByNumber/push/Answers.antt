use Rattle.std.proofs.Common.{◌<◌, ◌≤◌, ◌+◌, ◌∷◌, [], ◌++◌, List, Some, map, take, drop, sym, ap, subst, ◌∙◌, arith}
use Rattle.std.specs.List.{AllByRecursion}
use Rattle.drf_holdings.specs.ByNumber.{things_in, IsByNumber}
use Rattle.drf_holdings.specs.Rising.{IsRising}
use Rattle.drf_holdings.specs.declared.by_number.Slot.{Slot}
use Rattle.drf_holdings.proofs.Slots.{things-short}
use Rattle.drf_holdings.proofs.Slotted.{things_put, kept_put}
use Rattle.drf_holdings.proofs.by_number.ByNumber.push.Goals as goal

pub overflow_add-self : goal.overflow_add-self
overflow_add-self g c =
    let slots = c.self.inside.slots in
    let short = things-short slots.items in
    omega (arith, short, c.self.invariant.counted, slots.ok.0, slots.ok.1, slots.small)

pub invariant_of-self-2 : goal.invariant_of-self-2
invariant_of-self-2 g c =
    let number = g.T.Numbered.number in
    let slots = c.self.inside.slots.items in
    let place = c.count_below-place.result in
    let n = c.number-number.result in
    let rising = subst (λ (xs : List g.row.T.Denot). IsRising (map number (xs ++ c.args.last ∷ []))) (sym c.self.view_is) c.requires in
    let below = subst (λ (ss : List (Slot g.row.T.Denot)). AllByRecursion (λ s. s.number < n) (take place ss)) c.deref.ensures.value c.count_below-place.ensures.below in
    let above = subst (λ (ss : List (Slot g.row.T.Denot)). AllByRecursion (λ s. n ≤ s.number) (drop place ss)) c.deref.ensures.value c.count_below-place.ensures.rest in
    let put = c.push_reserved.ensures.items ∙ ap (λ (ss : List (Slot g.row.T.Denot)). ss ++ record { number = n; thing = Some c.args.last } ∷ []) (c.reserve.ensures.items ∙ c.truncate.ensures.items) in
    subst (λ (ss : List (Slot g.row.T.Denot)). IsByNumber number ss (c.self.inside.count + 1)) (sym put)
    (kept_put number slots place c.self.inside.count n c.args.last c.number-number.ensures c.self.invariant rising below above)

pub returns-clause-ok : goal.returns-clause-ok
returns-clause-ok g c =
    let number = g.T.Numbered.number in
    let slots = c.self.inside.slots.items in
    let place = c.count_below-place.result in
    let n = c.number-number.result in
    let rising = subst (λ (xs : List g.row.T.Denot). IsRising (map number (xs ++ c.args.last ∷ []))) (sym c.self.view_is) c.requires in
    let below = subst (λ (ss : List (Slot g.row.T.Denot)). AllByRecursion (λ s. s.number < n) (take place ss)) c.deref.ensures.value c.count_below-place.ensures.below in
    let above = subst (λ (ss : List (Slot g.row.T.Denot)). AllByRecursion (λ s. n ≤ s.number) (drop place ss)) c.deref.ensures.value c.count_below-place.ensures.rest in
    let put = c.push_reserved.ensures.items ∙ ap (λ (ss : List (Slot g.row.T.Denot)). ss ++ record { number = n; thing = Some c.args.last } ∷ []) (c.reserve.ensures.items ∙ c.truncate.ensures.items) in
    ap (λ (ss : List (Slot g.row.T.Denot)). things_in ss) put
    ∙ things_put number slots place c.self.inside.count n c.args.last c.number-number.ensures c.self.invariant rising below above
    ∙ ap (λ (xs : List g.row.T.Denot). xs ++ c.args.last ∷ []) c.self.view_is
