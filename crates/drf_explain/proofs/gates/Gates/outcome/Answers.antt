use Rattle.std.proofs.Common.{None, Some, List, ap, sym, ◌∙◌}
use Rattle.std.proofs.lemmas.Result.{IfOk-weaker}
use Rattle.drf_role.specs.Path.{Path}
use Rattle.drf_rows.specs.Quota.{consumption}
use Rattle.drf_rows.specs.declared.rows.FilterRow.{FilterRow}
use Rattle.drf_explain.specs.Explained.{held_until, shortage}
use Rattle.drf_explain.specs.Gates.{client_at}
use Rattle.drf_explain.proofs.Rooms.{outcome-short, outcome-worth}
use Rattle.drf_explain.proofs.gates.Gates.outcome.Goals as goal

pub returns-then-not-is_worth_an_offer : goal.returns-then-not-is_worth_an_offer
returns-then-not-is_worth_an_offer c =
    IfOk-weaker c.shortage.result _ _
    (λ why is. λ rows agent of gates counted joined.
    outcome-short rows agent of c.args.self.now c.args.client.now gates joined c.args.free.now c.args.part.now c.args.bundle why
    (sym c.is_worth_an_offer.ensures.value ∙ c.if-not-is_worth_an_offer.true)
    (is rows counted gates.limits ∙ ap (λ (r : Path). shortage rows.limits (consumption rows) r c.args.free.now c.args.part.now) c.role.ensures))
    c.shortage.ensures

pub returns-in-Some : goal.returns-in-Some
returns-in-Some c = λ rows agent of gates counted joined.
    outcome-worth rows agent of c.args.self.now c.args.client.now gates joined c.args.free.now c.args.part.now c.args.bundle (Some c.in-Some.until)
    (sym c.is_worth_an_offer.ensures.value ∙ c.if-not-is_worth_an_offer.false)
    (sym c.in-Some.is ∙ c.held_until.ensures
    ∙ ap (λ (fs : List FilterRow). held_until fs c.args.self.now.timestamp (client_at c.args.client.now) c.args.self.now.agent.now c.args.bundle) c.deref.ensures.value)

pub returns-in-None : goal.returns-in-None
returns-in-None c = λ rows agent of gates counted joined.
    outcome-worth rows agent of c.args.self.now c.args.client.now gates joined c.args.free.now c.args.part.now c.args.bundle None
    (sym c.is_worth_an_offer.ensures.value ∙ c.if-not-is_worth_an_offer.false)
    (sym c.in-None.is ∙ c.held_until.ensures
    ∙ ap (λ (fs : List FilterRow). held_until fs c.args.self.now.timestamp (client_at c.args.client.now) c.args.self.now.agent.now c.args.bundle) c.deref.ensures.value)
