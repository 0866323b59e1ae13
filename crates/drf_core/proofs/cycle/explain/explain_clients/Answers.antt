use Rattle.std.proofs.Common.{◌≡◌, true, Some, length, drop, refl, sym, ap, subst, ◌∙◌, arith}
use Rattle.std.specs.Prelude.{slice_get, is_some, ◌&&◌}
use Rattle.std.specs.List.{AllByRecursion}
use Rattle.std.proofs.lemmas.Bool.{and_parts}
use Rattle.std.proofs.lemmas.Result.{on_ok_weaker}
use Rattle.drf_bundle.proofs.ListLaws.{each_at}
use Rattle.drf_role.specs.Path.{Path}
use Rattle.drf_rows.specs.Cycle.{free_of, is_allocatable, turn_order}
use Rattle.drf_rows.specs.declared.rows.AgentRow.{AgentRow}
use Rattle.drf_rows.specs.declared.rows.Rows.{Rows}
use Rattle.drf_tables.specs.cycle.Drafts.{with_offers}
use Rattle.drf_tables.proofs.DraftLaws.{agents-with_offers}
use Rattle.drf_gates.specs.quota.Allowance.{quota_under}
use Rattle.drf_core.specs.cycle.Drafting.{IsRegisteredPath}
use Rattle.drf_core.proofs.drafting.Told.{gates-drafts, reported-begins, reported-passed}
use Rattle.drf_core.proofs.drafting.Turn.{all_dropped, cycle-on, first_of_queue, free_here, ordered_from, queue_begins, sound_now, turn-on, waiting-over, waiting-passed}
use Rattle.drf_core.proofs.cycle.explain.explain_clients.Given as given
use Rattle.drf_core.proofs.cycle.explain.explain_clients.Goals.{After-pass}
use Rattle.drf_core.proofs.cycle.explain.explain_clients.Goals as goal

pub count_active-requires : goal.count_active-requires
count_active-requires g c =
    let offers = c.args.drafts.now.offers in
    sound_now (g.S.Sorter.content c.args.sorter.now) c.args.tables.now.rows offers.items c.requires.cycle.drafting (omega (arith, offers.ok.0, offers.ok.1, offers.small))

pub begin_turn-requires-clause-cycle : goal.begin_turn-requires-clause-cycle
begin_turn-requires-clause-cycle g c = cycle-on _ _ c.args.tables.now c.args.drafts.now c.args.place c.requires.cycle c.count_active.ensures.same

pub loop-drafts-init : goal.loop-drafts-init
loop-drafts-init g c =
    let rows : Rows = c.args.tables.now.rows in
    let offers = c.args.drafts.now.offers.items in
    let queue = g.S.Sorter.queue c.begin_turn.new.sorter in
    let order = c.in_ok-free.ensures.order in
    let count = c.in_ok-waiting.ensures.count in
    let ordered = ordered_from (g.S.Sorter.content c.args.sorter.now) rows offers c.requires.cycle.drafting count.0 count.1 in
    record {
      turn = c.in_ok-free.ensures.turn;
      waits = record { clients = turn_order (with_offers rows offers); queued = order; same = λ agent at. refl };
      reported = reported-begins c.args.each rows c.args.place (with_offers rows offers) queue c.args.findings.now.items order;
      waiting = count.2 ∙ ap length (ordered.same ∙ sym order);
    }

pub goes_on-requires : goal.goes_on-requires
goes_on-requires g c = c.loop-drafts.invariant.turn.known.worth

some_at : (g : given.Over) (c : After-pass g) → (is_some (slice_get (g.S.Sorter.queue c.loop-drafts.sorter) 0) && is_allocatable c.loop-drafts.free.bundle) ≡ true
some_at g c = sym c.goes_on.ensures ∙ c.loop-drafts-test.true

first_at : (g : given.Over) (c : After-pass g) → (path : Path) × (slice_get (g.S.Sorter.queue c.loop-drafts.sorter) 0 ≡ Some path)
first_at g c = first_of_queue (g.S.Sorter.queue c.loop-drafts.sorter) (is_allocatable c.loop-drafts.free.bundle) (some_at g c)

left_at : (g : given.Over) (c : After-pass g) → g.S.Sorter.queue c.pass.new.self ≡ drop 1 (g.S.Sorter.queue c.loop-drafts.sorter)
left_at g c = c.pass.ensures.queue ∙ ap (λ ps. drop 1 ps) c.try_first.ensures.queue

pub loop-drafts-preserved : goal.loop-drafts-preserved
loop-drafts-preserved g c =
    let b = (goal.at.loop-drafts-preserved g c).After-pass in
    let rows : Rows = c.args.tables.now.rows in
    let offers = c.loop-drafts.drafts.offers.items in
    let start : Rows = with_offers rows c.args.drafts.now.offers.items in
    let now : Rows = with_offers rows offers in
    let after : Rows = with_offers rows c.try_first.new.drafts.offers.items in
    let queue = g.S.Sorter.queue c.loop-drafts.sorter in
    let left = g.S.Sorter.queue c.pass.new.self in
    let turn = c.loop-drafts.invariant.turn in
    let first = first_at g b in
    let agents = agents-with_offers rows offers in
    let tried = c.in_ok-try_first.ensures.tried first.0 first.1 in
    let here : (agent : AgentRow) → slice_get rows.agents c.args.place ≡ Some agent → c.loop-drafts.free.bundle ≡ free_of now agent =
    λ agent at. free_here rows offers c.args.place c.loop-drafts.free.bundle agent turn.is_free at in
    record {
      turn = turn-on _ _ c.args.tables.now c.try_first.new.drafts c.args.place c.try_first.new.free _ left c.in_ok-try_first.ensures.turn c.pass.ensures.content
          (subst (AllByRecursion (IsRegisteredPath rows)) (sym (left_at g b)) (all_dropped (IsRegisteredPath rows) queue turn.clients));
      waits = waiting-passed rows c.args.place start now queue c.loop-drafts.invariant.waits after left first.0 agents first.1 tried (left_at g b);
      reported = reported-passed c.args.each rows c.args.place start now after queue left _ _ _ first.0 c.loop-drafts.invariant.reported agents
          (each_at (IsRegisteredPath rows) queue 0 first.0 turn.clients first.1) first.1 tried (left_at g b)
          (λ agent at. ap is_allocatable (sym (here agent at)) ∙ (and_parts (is_some (slice_get queue 0)) (is_allocatable c.loop-drafts.free.bundle) (some_at g b)).1)
          (λ agent at. c.in_ok-explain_first.ensures first.0 now agent first.1 (gates-drafts rows offers agent c.args.gates.now (c.requires.gates agent at))
          (rw (c.as_ref-in-loop-drafts.ensures.value ∙ c.quota_under-quota.ensures ∙ ap (quota_under c.args.tables.now.rows.limits) c.as_ref.ensures.value) turn.quota) (here agent at) (c.agent_name-agent.ensures agent at));
      waiting = omega (arith, c.loop-drafts.invariant.waiting, ap length (queue_begins queue first.0 first.1), ap length (left_at g b));
    }

pub loop-drafts-smaller : goal.loop-drafts-smaller
loop-drafts-smaller g c =
    let b = (goal.at.loop-drafts-smaller g c).After-pass in
    let first = first_at g b in
    omega (arith, ap length (queue_begins (g.S.Sorter.queue c.loop-drafts.sorter) first.0 first.1), ap length (left_at g b))

-- every client was tried, or too little is left to grant
pub returns-clause-tried : goal.returns-clause-tried
returns-clause-tried g c =
    let rows : Rows = c.args.tables.now.rows in
    let start : Rows = with_offers rows c.args.drafts.now.offers.items in
    let drafts = c.loop-drafts.drafts.offers.items in
    on_ok_weaker c.end_turn.result
    (λ ended agent at.
    let here = ap (λ as'. slice_get as' c.args.place) (sym (agents-with_offers rows c.args.drafts.now.offers.items)) ∙ at in
    ap (with_offers rows) c.end_turn.ensures.offers
    ∙ waiting-over rows c.args.place start (with_offers rows drafts) (g.S.Sorter.queue c.loop-drafts.sorter) c.loop-drafts.invariant.waits
    c.loop-drafts.free.bundle (sym c.goes_on.ensures ∙ c.loop-drafts-test.false) agent here
    (free_here rows drafts c.args.place c.loop-drafts.free.bundle agent c.loop-drafts.invariant.turn.is_free here))
    c.end_turn.ensures.cycle

pub returns-clause-reported : goal.returns-clause-reported
returns-clause-reported g c =
    let rows : Rows = c.args.tables.now.rows in
    let now : Rows = with_offers rows c.loop-drafts.drafts.offers.items in
    let waits = c.loop-drafts.invariant.waits in
    on_ok_weaker c.end_turn.result
    (λ ended agent at.
    let here = ap (λ as'. slice_get as' c.args.place) (sym (agents-with_offers rows c.args.drafts.now.offers.items)) ∙ at in
    c.in_ok-explain_remaining.ensures.reported waits.clients now agent waits.queued
    (gates-drafts rows c.loop-drafts.drafts.offers.items agent c.args.gates.now (c.requires.gates agent here)) (rw (c.as_ref-3.ensures.value ∙ c.quota_under-quota-2.ensures ∙ ap (quota_under c.args.tables.now.rows.limits) c.as_ref-2.ensures.value) c.loop-drafts.invariant.turn.quota)
    (free_here rows c.loop-drafts.drafts.offers.items c.args.place c.loop-drafts.free.bundle agent c.loop-drafts.invariant.turn.is_free here)
    (c.agent_name-agent.ensures agent here) (sym c.goes_on.ensures ∙ c.loop-drafts-test.false)
    ∙ c.loop-drafts.invariant.reported agent waits.clients here waits.queued)
    c.end_turn.ensures.cycle

pub explain_remaining-requires : goal.explain_remaining-requires
explain_remaining-requires g c = c.loop-drafts.invariant.waiting

pub returns-clause-cycle : goal.returns-clause-cycle
returns-clause-cycle g c =
    on_ok_weaker c.end_turn.result
    (λ ended. cycle-on _ _ c.args.tables.now _ _ (ended _ c.args.tables.now _ c.loop-drafts.invariant.turn) c.explain_remaining.ensures.content) c.end_turn.ensures.cycle
