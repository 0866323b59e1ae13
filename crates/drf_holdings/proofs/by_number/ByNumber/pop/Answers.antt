use Rattle.std.proofs.Common.{◌≡◌, [], ◌++◌, sym, ap, ◌∙◌}
use Rattle.drf_holdings.specs.ByNumber.{things_in}
use Rattle.drf_holdings.proofs.Removed.{on_none}
use Rattle.drf_holdings.proofs.Slotted.{kept_none, kept_last, some_last}
use Rattle.drf_holdings.proofs.by_number.ByNumber.pop.Goals as goal

pub invariant_of-self : goal.invariant_of-self
invariant_of-self g c =
    kept_none g.T.Numbered.number c.self.inside.slots.items c.pop_thing.new.slots.items c.self.inside.count
    c.in_err-last.ensures.order c.self.invariant c.in_err-last.ensures.things

pub returns-in_err-last-clause-none : goal.returns-in_err-last-clause-none
returns-in_err-last-clause-none g c =
    let left : things_in c.pop_thing.new.slots.items ≡ [] = c.in_err-last.ensures.none in
    let both : (c.args.self.now ≡ []) × (things_in c.pop_thing.new.slots.items ≡ []) =
    (sym c.self.view_is ∙ c.in_err-last.ensures.things ∙ ap (λ xs. xs ++ []) left, left) in
    on_none _ _ both

pub overflow_sub-self : goal.overflow_sub-self
overflow_sub-self g c =
    some_last g.T.Numbered.number c.self.inside.slots.items c.pop_thing.new.slots.items c.self.inside.count
    c.in_ok-last.ensures.order c.self.invariant c.in_ok-last.last c.in_ok-last.ensures.things

pub invariant_of-self-2 : goal.invariant_of-self-2
invariant_of-self-2 g c =
    kept_last g.T.Numbered.number c.self.inside.slots.items c.pop_thing.new.slots.items c.self.inside.count
    c.in_ok-last.ensures.order c.self.invariant c.in_ok-last.last c.in_ok-last.ensures.things

pub returns-clause-items : goal.returns-clause-items
returns-clause-items g c = sym c.self.view_is ∙ c.in_ok-last.ensures.things
