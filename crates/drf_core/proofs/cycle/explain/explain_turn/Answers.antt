use Rattle.std.proofs.Common.{◌≡◌, ◌∷◌, ◌++◌, [], List, sym, ap, subst, ◌∙◌}
use Rattle.drf_bundle.specs.declared.resource.Resource.{Resource}
use Rattle.drf_rows.specs.Cycle.{free_of}
use Rattle.drf_rows.specs.Offers.{is_empty}
use Rattle.drf_rows.specs.declared.rows.Rows.{Rows}
use Rattle.drf_explain.specs.Gates.{AreGatesOf}
use Rattle.drf_explain.specs.declared.finding.Finding.TheVariants.{Inactive, NothingFree}
use Rattle.drf_tables.specs.cycle.Drafts.{with_offers}
use Rattle.drf_core.proofs.drafting.Told.{agent_in, gates-live, turn_at-idle, turn_at-full, turn_at-tried, reported_at-idle, reported_at-full, reported_at-tried}
use Rattle.drf_core.proofs.refusing.Tests.{no_length}
use Rattle.drf_core.proofs.drafting.Turn.{cycle-closed, free-before}
use Rattle.drf_core.proofs.cycle.explain.explain_turn.Goals.{After-is_empty}
use Rattle.drf_core.proofs.cycle.explain.explain_turn.Given as given
use Rattle.drf_core.proofs.cycle.explain.explain_turn.Goals as goal

-- whether the agent has free resources, with the drafts
empty_at : (g : given.Over) (c : After-is_empty g)
    → c.is_empty.result ≡ is_empty (free_of (with_offers c.args.tables.now.rows c.args.drafts.now.offers.items) (agent_in c.args.tables.now.rows c.args.drafts.now.offers.items c.args.place c.requires.place).0)
empty_at g c =
    let rows : Rows = c.args.tables.now.rows in
    let a = agent_in rows c.args.drafts.now.offers.items c.args.place c.requires.place in
    c.is_empty.ensures ∙ no_length c.entries.result.now
    ∙ ap (λ (rs : List Resource). is_empty rs) (c.entries.ensures.value ∙ c.free.ensures a.0 a.1
    ∙ sym (free-before rows c.args.drafts.now.offers.items c.args.drafts.now.lefts.items c.args.place a.0 c.requires.cycle.left a.1))

pub returns-then-not-is_active-clause-turn : goal.returns-then-not-is_active-clause-turn
returns-then-not-is_active-clause-turn g c =
    let a = agent_in c.args.tables.now.rows c.args.drafts.now.offers.items c.args.place c.requires.place in
    turn_at-idle _ c.args.place a.0 a.2 (sym (c.is_active.ensures a.0 a.1) ∙ c.if-not-is_active.true)

pub returns-then-not-is_active-clause-reported : goal.returns-then-not-is_active-clause-reported
returns-then-not-is_active-clause-reported g c =
    let a = agent_in c.args.tables.now.rows c.args.drafts.now.offers.items c.args.place c.requires.place in
    c.in_ok-push.ensures.items
    ∙ ap (λ n. c.args.findings.now.items ++ Inactive n ∷ []) (c.in_ok-agent.ensures ∙ c.agent_name-agent.ensures a.0 a.1)
    ∙ ap (λ fs. c.args.findings.now.items ++ fs)
    (reported_at-idle _ c.args.place a.0 a.2 c.args.each (sym (c.is_active.ensures a.0 a.1) ∙ c.if-not-is_active.true))

pub returns-then-not-is_active-clause-cycle : goal.returns-then-not-is_active-clause-cycle
returns-then-not-is_active-clause-cycle g c =
    cycle-closed (g.S.Sorter.content c.args.sorter.now) c.args.tables.now c.args.drafts.now c.args.place c.requires.cycle

pub returns-then-is_empty-clause-turn : goal.returns-then-is_empty-clause-turn
returns-then-is_empty-clause-turn g c =
    let b = (goal.at.returns-then-is_empty-clause-turn g c).After-is_empty in
    let a = agent_in c.args.tables.now.rows c.args.drafts.now.offers.items c.args.place c.requires.place in
    turn_at-full _ c.args.place a.0 a.2 (sym (empty_at g b) ∙ c.if-is_empty.true)

pub returns-then-is_empty-clause-reported : goal.returns-then-is_empty-clause-reported
returns-then-is_empty-clause-reported g c =
    let b = (goal.at.returns-then-is_empty-clause-reported g c).After-is_empty in
    let a = agent_in c.args.tables.now.rows c.args.drafts.now.offers.items c.args.place c.requires.place in
    c.in_ok-push-2.ensures.items
    ∙ ap (λ n. c.args.findings.now.items ++ NothingFree n ∷ []) (c.in_ok-agent-2.ensures ∙ c.agent_name-agent.ensures a.0 a.1)
    ∙ ap (λ fs. c.args.findings.now.items ++ fs)
    (reported_at-full _ c.args.place a.0 a.2 c.args.each (sym (c.is_active.ensures a.0 a.1) ∙ c.if-not-is_active.false) (sym (empty_at g b) ∙ c.if-is_empty.true))

pub returns-then-is_empty-clause-cycle : goal.returns-then-is_empty-clause-cycle
returns-then-is_empty-clause-cycle g c =
    cycle-closed (g.S.Sorter.content c.args.sorter.now) c.args.tables.now c.args.drafts.now c.args.place c.requires.cycle

pub explain_clients-requires-clause-gates : goal.explain_clients-requires-clause-gates
explain_clients-requires-clause-gates g c = λ agent at.
    let gates = c.in_ok-gates.ensures agent (c.agent_name-agent.ensures agent at) in
    gates-live c.args.tables.now.rows agent c.in_ok-gates.gates
    (subst (λ (r : Rows). AreGatesOf r agent c.in_ok-gates.gates) c.requires.rows gates)

pub returns-clause-turn : goal.returns-clause-turn
returns-clause-turn g c =
    let a = agent_in c.args.tables.now.rows c.args.drafts.now.offers.items c.args.place c.requires.place in
    c.in_ok-explain_clients.ensures.tried a.0 a.2
    ∙ turn_at-tried _ c.args.place a.0 a.2 (sym (c.is_active.ensures a.0 a.1) ∙ c.if-not-is_active.false)

pub returns-clause-reported : goal.returns-clause-reported
returns-clause-reported g c =
    let b = (goal.at.returns-clause-reported g c).After-is_empty in
    let a = agent_in c.args.tables.now.rows c.args.drafts.now.offers.items c.args.place c.requires.place in
    c.in_ok-explain_clients.ensures.reported a.0 a.2
    ∙ ap (λ fs. c.args.findings.now.items ++ fs)
    (reported_at-tried _ c.args.place a.0 a.2 c.args.each (sym (c.is_active.ensures a.0 a.1) ∙ c.if-not-is_active.false) (sym (empty_at g b) ∙ c.if-is_empty.false))
