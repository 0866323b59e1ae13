use Rattle.std.proofs.Common.{◌<◌, List, ◌++◌, sym, ap, ◌∙◌, arith, length}
use Rattle.drf_explain.specs.declared.finding.Finding.{Finding}
use Rattle.drf_tables.specs.cycle.Drafts.{with_offers}
use Rattle.drf_tables.proofs.DraftLaws.{agents-with_offers}
use Rattle.drf_core.specs.cycle.Explaining.{left_to_explain, untouched_at}
use Rattle.drf_core.proofs.drafting.Told.{untouched-next}
use Rattle.drf_core.proofs.cycle.explain.Explanations.untouched.Goals as goal

pub explain_untouched-requires-clause-place : goal.explain_untouched-requires-clause-place
explain_untouched-requires-clause-place g c = omega (arith, c.if-self-agent_count.false, c.agent_count.ensures)

pub returns-clause-reported : goal.returns-clause-reported
returns-clause-reported g c = λ turn turns is.
    let rows = c.self.inside.tables.rows in
    let offers = c.self.inside.drafts.offers.items in
    let place = c.self.inside.place in
    let inside : place < length rows.agents = omega (arith, c.if-self-agent_count.false, c.agent_count.ensures) in
    untouched-next rows (with_offers rows offers) place c.explain_untouched.new.findings.items turn turns inside (agents-with_offers rows offers)
    (c.in_ok-explain_untouched.ensures.reported ∙ ap (λ (fs : List Finding). fs ++ untouched_at (with_offers rows offers) place) c.new-untouched.ensures.items)
    (sym (ap (λ over. left_to_explain over rows offers place) c.if-self.false) ∙ c.self.view_is ∙ is)
