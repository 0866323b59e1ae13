use Rattle.std.proofs.Common.{◌<◌, true, List, ◌++◌, sym, ap, ◌∙◌, arith, length}
use Rattle.drf_explain.specs.declared.finding.Finding.{Finding}
use Rattle.drf_tables.specs.cycle.Drafts.{with_offers}
use Rattle.drf_tables.proofs.DraftLaws.{agents-with_offers}
use Rattle.drf_core.specs.cycle.Explaining.{left_to_explain, reported_at, untouched_at}
use Rattle.drf_core.proofs.drafting.Told.{explanations-next}
use Rattle.drf_core.proofs.cycle.explain.Explanations.next_agent.Goals as goal

pub explain_turn-requires-clause-place : goal.explain_turn-requires-clause-place
explain_turn-requires-clause-place g c = omega (arith, c.if-self-agent_count.false, c.agent_count.ensures)

pub overflow_add-self : goal.overflow_add-self
overflow_add-self g c =
    omega (arith, c.if-self-agent_count.false, c.agent_count.ensures, (c.self.invariant c.if-self.false).1.drafting.few_agents)

pub returns-clause-reported : goal.returns-clause-reported
returns-clause-reported g c =
    let rows = c.self.inside.tables.rows in
    let offers = c.self.inside.drafts.offers.items in
    let place = c.self.inside.place in
    let inside : place < length rows.agents = omega (arith, c.if-self-agent_count.false, c.agent_count.ensures) in (
      untouched_at (with_offers rows offers) place,
      sym c.self.view_is
          ∙ ap (λ over. left_to_explain over rows offers place) c.if-self.false
          ∙ explanations-next rows (with_offers rows offers) (with_offers rows c.explain_turn.new.drafts.offers.items) place c.explain_turn.new.findings.items
          inside (agents-with_offers rows offers) c.in_ok-explain_turn.ensures.turn
          (c.in_ok-explain_turn.ensures.reported ∙ ap (λ (fs : List Finding). fs ++ reported_at true (with_offers rows offers) place) c.new-reported.ensures.items),
    )
