use Rattle.std.proofs.Common.{◌≡◌, Some, drop, refl, sym, ap, subst, ◌∙◌, arith}
use Rattle.std.proofs.lemmas.Result.{on_ok_weaker}
use Rattle.std.specs.Prelude.{slice_get}
use Rattle.drf_role.specs.Path.{Path}
use Rattle.drf_rows.specs.Cycle.{is_allocatable, turn_order}
use Rattle.drf_rows.specs.declared.rows.Rows.{Rows}
use Rattle.drf_sorter.specs.Work.{Work, debt}
use Rattle.drf_tables.specs.cycle.Drafts.{with_offers}
use Rattle.drf_tables.proofs.DraftLaws.{agents-with_offers}
use Rattle.drf_gates.specs.quota.Allowance.{quota_under}
use Rattle.drf_core.specs.cycle.Drafting.{IsRegisteredPath}
use Rattle.drf_core.specs.cycle.Entitling.{IsPassedOver}
use Rattle.drf_core.proofs.drafting.Turn.{cycle-closed, element_at, first_of_queue, free_here, is_open_at-before, turn-on, turn_at-closed, turn_at-open, waiting-over, waiting-passed}
use Rattle.drf_core.proofs.drafting.Barred.{all_left, passed_falls, waiting-left}
use Rattle.drf_core.proofs.cycle.turn.Given as given
use Rattle.drf_core.proofs.cycle.turn.Goals.{After-pass_tried}
use Rattle.drf_core.proofs.cycle.turn.Goals as goal

-- an agent that is inactive or has too little free
pub returns-then-not-is_open-clause-turn : goal.returns-then-not-is_open-clause-turn
returns-then-not-is_open-clause-turn g c =
    turn_at-closed (with_offers c.args.tables.now.rows c.args.drafts.now.offers.items) c.args.place
    (is_open_at-before c.args.tables.now.rows c.args.drafts.now.offers.items c.args.drafts.now.lefts.items c.args.place c.requires.cycle.left
    ∙ sym c.is_open.ensures ∙ c.if-not-is_open.true)

pub returns-then-not-is_open-clause-cycle : goal.returns-then-not-is_open-clause-cycle
returns-then-not-is_open-clause-cycle g c =
    cycle-closed (g.S.Sorter.content c.args.sorter.now) c.args.tables.now c.args.drafts.now c.args.place c.requires.cycle

pub loop-sorter-init : goal.loop-sorter-init
loop-sorter-init g c = record {
  turn = c.in_ok-free.ensures.turn;
  waiting = record {
    clients = turn_order (with_offers c.args.tables.now.rows c.args.drafts.now.offers.items);
    queued = c.in_ok-free.ensures.order;
    same = λ agent at. refl;
  };
  work = λ counted. omega (arith, c.begin_turn.ensures.spends.work counted);
  made = omega (arith, c.begin_turn.ensures.spends.made);
}

pub goes_on-requires : goal.goes_on-requires
goes_on-requires g c = c.loop-sorter.invariant.turn.known.worth

-- which clients are removed from the queue
over_at : (g : given.Over) (c : After-pass_tried g) → IsPassedOver c.try_first.new.free.known (g.S.Sorter.queue c.loop-sorter.sorter) (g.S.Sorter.queue c.pass_tried.new.sorter)
over_at g c =
    subst (λ paths. IsPassedOver c.try_first.new.free.known paths (g.S.Sorter.queue c.pass_tried.new.sorter)) c.try_first.ensures.queue c.pass_tried.ensures.queue

first_at : (g : given.Over) (c : After-pass_tried g) → (path : Path) × (slice_get (g.S.Sorter.queue c.loop-sorter.sorter) 0 ≡ Some path)
first_at g c =
    first_of_queue (g.S.Sorter.queue c.loop-sorter.sorter) (is_allocatable c.loop-sorter.free.bundle) (sym c.goes_on.ensures ∙ c.loop-sorter-test.true)

pub loop-sorter-preserved : goal.loop-sorter-preserved
loop-sorter-preserved g c =
    let b = (goal.at.loop-sorter-preserved g c).After-pass_tried in
    let rows : Rows = c.args.tables.now.rows in
    let queue = g.S.Sorter.queue c.loop-sorter.sorter in
    let left = g.S.Sorter.queue c.pass_tried.new.sorter in
    let start : Rows = with_offers rows c.args.drafts.now.offers.items in
    let after : Rows = with_offers rows c.try_first.new.drafts.offers.items in
    let clients = c.loop-sorter.invariant.turn.clients in
    let turn = c.in_ok-try_first.ensures.turn in
    let first = first_at g b in
    let tried =
    waiting-passed rows c.args.place start (with_offers rows c.loop-sorter.drafts.offers.items) queue c.loop-sorter.invariant.waiting
    after (drop 1 queue) first.0 (agents-with_offers rows c.loop-sorter.drafts.offers.items) first.1 (c.in_ok-try_first.ensures.tried first.0 first.1) refl in
    record {
      turn = turn-on _ _ c.args.tables.now c.try_first.new.drafts c.args.place c.try_first.new.free _ left turn c.pass_tried.ensures.content
          (all_left (IsRegisteredPath rows) c.try_first.new.free.known queue left (over_at g b) clients);
      waiting = waiting-left rows c.args.place start after (agents-with_offers rows c.try_first.new.drafts.offers.items) (quota_under rows.limits c.try_first.new.drafts.consumption) c.try_first.new.free.bundle
          turn.quota turn.is_free c.try_first.new.free.known turn.known.right queue left first.0 clients first.1
          c.in_ok-try_first.ensures.role (over_at g b) tried;
      work = λ counted. omega (arith, c.loop-sorter.invariant.work counted, c.in_ok-try_first.ensures.work counted, ap debt c.pass_tried.ensures.work);
      made = omega (arith, c.loop-sorter.invariant.made, c.try_first.ensures.made, ap (λ (w : Work). w.made) c.pass_tried.ensures.work);
    }

pub loop-sorter-smaller : goal.loop-sorter-smaller
loop-sorter-smaller g c =
    let b = (goal.at.loop-sorter-smaller g c).After-pass_tried in
    let first = first_at g b in
    passed_falls c.try_first.new.free.known (g.S.Sorter.queue c.loop-sorter.sorter) (g.S.Sorter.queue c.pass_tried.new.sorter) first.0 first.1 (over_at g b)

-- every client was tried, or too little is left to grant
pub returns-clause-turn : goal.returns-clause-turn
returns-clause-turn g c =
    let rows : Rows = c.args.tables.now.rows in
    let offers = c.args.drafts.now.offers.items in
    let drafts = c.loop-sorter.drafts.offers.items in
    let start : Rows = with_offers rows offers in
    let agent = element_at rows.agents c.args.place c.requires.place in
    let here = ap (λ as'. slice_get as' c.args.place) (agents-with_offers rows offers) ∙ agent.1 in
    let is_open = is_open_at-before rows offers c.args.drafts.now.lefts.items c.args.place c.requires.cycle.left ∙ sym c.is_open.ensures ∙ c.if-not-is_open.false in
    on_ok_weaker c.end_turn.result
    (λ ended.
    ap (with_offers rows) c.end_turn.ensures.offers
    ∙ waiting-over rows c.args.place start (with_offers rows drafts) (g.S.Sorter.queue c.loop-sorter.sorter) c.loop-sorter.invariant.waiting
    c.loop-sorter.free.bundle (sym c.goes_on.ensures ∙ c.loop-sorter-test.false) agent.0 agent.1
    (free_here rows drafts c.args.place c.loop-sorter.free.bundle agent.0 c.loop-sorter.invariant.turn.is_free agent.1)
    ∙ turn_at-open start c.args.place agent.0 here is_open)
    c.end_turn.ensures.cycle

pub returns-clause-cycle : goal.returns-clause-cycle
returns-clause-cycle g c = on_ok_weaker c.end_turn.result (λ ended. ended _ c.args.tables.now _ c.loop-sorter.invariant.turn) c.end_turn.ensures.cycle
