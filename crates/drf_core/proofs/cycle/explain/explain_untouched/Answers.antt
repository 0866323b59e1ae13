use Rattle.std.proofs.Common.{◌≡◌, ◌++◌, List, sym, ap, subst, ◌∙◌, append-nil}
use Rattle.std.proofs.lemmas.Result.{on_ok_weaker}
use Rattle.drf_bundle.specs.declared.resource.Resource.{Resource}
use Rattle.drf_rows.specs.Cycle.{free_of, turn_order}
use Rattle.drf_rows.specs.Offers.{is_empty}
use Rattle.drf_rows.specs.declared.rows.Rows.{Rows}
use Rattle.drf_explain.specs.Gates.{AreGatesOf}
use Rattle.drf_explain.specs.declared.finding.Finding.{Finding}
use Rattle.drf_gates.specs.quota.Allowance.{quota_under}
use Rattle.drf_tables.specs.cycle.Drafts.{with_offers}
use Rattle.drf_core.proofs.drafting.Told.{agent_in, gates-drafts, gates-live, untouched_at-idle, untouched_at-full, untouched_at-tried}
use Rattle.drf_core.proofs.refusing.Tests.{no_length}
use Rattle.drf_core.proofs.drafting.Turn.{free-before, free_here}
use Rattle.drf_core.proofs.cycle.explain.explain_untouched.Goals.{After-is_empty}
use Rattle.drf_core.proofs.cycle.explain.explain_untouched.Given as given
use Rattle.drf_core.proofs.cycle.explain.explain_untouched.Goals as goal

-- whether the agent has free resources, with the drafts
empty_at : (g : given.Over) (c : After-is_empty g)
    → c.is_empty.result ≡ is_empty (free_of (with_offers c.args.tables.now.rows c.args.drafts.now.offers.items) (agent_in c.args.tables.now.rows c.args.drafts.now.offers.items c.args.place c.requires.place).0)
empty_at g c =
    let rows : Rows = c.args.tables.now.rows in
    let a = agent_in rows c.args.drafts.now.offers.items c.args.place c.requires.place in
    c.is_empty.ensures ∙ no_length c.entries.result.now
    ∙ ap (λ (rs : List Resource). is_empty rs) (c.entries.ensures.value ∙ c.free.ensures a.0 a.1
    ∙ sym (free-before rows c.args.drafts.now.offers.items c.args.drafts.now.lefts.items c.args.place a.0 c.requires.cycle.left a.1))

pub returns-then-not-is_active-clause-reported : goal.returns-then-not-is_active-clause-reported
returns-then-not-is_active-clause-reported g c =
    let a = agent_in c.args.tables.now.rows c.args.drafts.now.offers.items c.args.place c.requires.place in
    sym (append-nil c.args.findings.now.items)
    ∙ ap (λ fs. c.args.findings.now.items ++ fs) (untouched_at-idle _ c.args.place a.0 a.2 (sym (c.is_active.ensures a.0 a.1) ∙ c.if-not-is_active.true))

pub returns-then-is_empty-clause-reported : goal.returns-then-is_empty-clause-reported
returns-then-is_empty-clause-reported g c =
    let b = (goal.at.returns-then-is_empty-clause-reported g c).After-is_empty in
    let a = agent_in c.args.tables.now.rows c.args.drafts.now.offers.items c.args.place c.requires.place in
    sym (append-nil c.args.findings.now.items)
    ∙ ap (λ fs. c.args.findings.now.items ++ fs)
    (untouched_at-full _ c.args.place a.0 a.2 (sym (c.is_active.ensures a.0 a.1) ∙ c.if-not-is_active.false) (sym (empty_at g b) ∙ c.if-is_empty.true))

pub returns-clause-content : goal.returns-clause-content
returns-clause-content g c = c.explain_queue.ensures.content ∙ c.begin_turn.ensures.content

pub returns-clause-reported : goal.returns-clause-reported
returns-clause-reported g c =
    let b = (goal.at.returns-clause-reported g c).After-is_empty in
    let rows : Rows = c.args.tables.now.rows in
    let offers = c.args.drafts.now.offers.items in
    let now : Rows = with_offers rows offers in
    let old : List Finding = c.args.findings.now.items in
    let a = agent_in rows offers c.args.place c.requires.place in
    let named = c.agent_name-agent.ensures a.0 a.1 in
    let gates = gates-drafts rows offers a.0 c.in_ok-gates.gates
    (gates-live rows a.0 c.in_ok-gates.gates
    (subst (λ (r : Rows). AreGatesOf r a.0 c.in_ok-gates.gates) c.requires.rows (c.in_ok-gates.ensures a.0 named))) in
    on_ok_weaker c.explain_queue.result
    (λ reported.
    reported (turn_order now) now a.0 c.in_ok-free.ensures.order gates (rw (c.as_ref-2.ensures.value ∙ c.quota_under-quota.ensures ∙ ap (quota_under c.args.tables.now.rows.limits) c.as_ref.ensures.value) c.requires.cycle.quota)
    (free_here rows offers c.args.place c.in_ok-free.free.bundle a.0 c.in_ok-free.ensures.turn.is_free a.1) named
    ∙ ap (λ (fs : List Finding). old ++ fs)
    (untouched_at-tried now c.args.place a.0 a.2 (sym (c.is_active.ensures a.0 a.1) ∙ c.if-not-is_active.false) (sym (empty_at g b) ∙ c.if-is_empty.false)))
    c.explain_queue.ensures.reported
