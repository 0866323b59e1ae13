use Rattle.std.proofs.Common.{◌≡◌, Bool, Some, None, [], sym, ap, ◌∙◌, cond}
use Rattle.drf_role.specs.Path.{role_part, framework_part}
use Rattle.drf_bundle.specs.Bundle.{is_unreserved, rest}
use Rattle.drf_bundle.proofs.theorems.TakenLaws.{rest-itself}
use Rattle.drf_rows.specs.Cycle.{is_allocatable}
use Rattle.drf_rows.specs.Filters.{is_held_back}
use Rattle.drf_core.proofs.cycle.free.take_all.Goals.{After-is_held_back, After-replace}
use Rattle.drf_core.proofs.cycle.free.take_all.Goals as goal

held_at : (c : After-is_held_back)
    → c.is_held_back.result
    ≡ is_held_back c.args.tables.now.rows.filters c.args.tables.now.rows.clock (record { role = role_part c.args.client.now; framework = framework_part c.args.client.now }) c.args.agent.now c.args.free.now.bundle
held_at c =
    c.is_held_back.ensures
    ∙ (λ i. is_held_back c.args.tables.now.rows.filters c.args.tables.now.rows.clock (record { role = c.role.ensures i; framework = c.framework.ensures i }) c.args.agent.now c.args.free.now.bundle)

-- a filter covers it
pub returns-then-is_held_back-clause-taken : goal.returns-then-is_held_back-clause-taken
returns-then-is_held_back-clause-taken c =
    let b = (goal.at.returns-then-is_held_back-clause-taken c).After-is_held_back in
    sym (ap (λ (held : Bool). cond held None (Some c.args.free.now.bundle)) (sym (held_at b) ∙ c.if-is_held_back.true))

pub returns-then-is_held_back-clause-known : goal.returns-then-is_held_back-clause-known
returns-then-is_held_back-clause-known c = λ quota later known.
    record { worth = known.worth; unreserved = known.unreserved; everyone = known.everyone; right = tt }

-- all free resources are granted
pub returns-clause-taken : goal.returns-clause-taken
returns-clause-taken c =
    let b = (goal.at.returns-clause-taken c).After-is_held_back in
    ap Some c.replace.ensures.value
    ∙ sym (ap (λ (held : Bool). cond held None (Some c.args.free.now.bundle)) (sym (held_at b) ∙ c.if-is_held_back.false))

nothing_at : (c : After-replace) → c.replace.new.dest ≡ []
nothing_at c = c.replace.ensures.after ∙ c.empty.ensures

pub returns-clause-left : goal.returns-clause-left
returns-clause-left c =
    nothing_at (goal.at.returns-clause-left c).After-replace
    ∙ sym (rest-itself c.args.free.now.bundle c.recall.ensures) ∙ ap (rest c.args.free.now.bundle) (sym c.replace.ensures.value)

pub returns-clause-known : goal.returns-clause-known
returns-clause-known c = λ quota later known.
    let none = nothing_at (goal.at.returns-clause-known c).After-replace in
    record { worth = ap is_allocatable (sym none); unreserved = λ reported. ap is_unreserved none; everyone = tt; right = tt }
