use Rattle.std.proofs.Common.{sym, ap, subst, ◌∙◌, arith}
use Rattle.std.specs.Prelude.{slice_get}
use Rattle.drf_rows.specs.Cycle.{is_allocatable, turn_order}
use Rattle.drf_rows.specs.declared.rows.Rows.{Rows}
use Rattle.drf_sorter.specs.Content.{Content}
use Rattle.drf_tables.specs.cycle.Drafts.{with_offers}
use Rattle.drf_tables.proofs.DraftLaws.{agents-with_offers}
use Rattle.drf_gates.specs.quota.Allowance.{quota_under}
use Rattle.drf_core.specs.cycle.Drafting.{IsDrafting}
use Rattle.drf_core.proofs.drafting.Turn.{element_at, free-before, left-begins, ordered_from, registered_all, sound_now}
use Rattle.drf_core.proofs.cycle.begin_turn.Goals as goal

pub fix_order-requires : goal.fix_order-requires
fix_order-requires g c =
    let offers = c.args.drafts.now.offers in
    sound_now (g.S.Sorter.content c.args.sorter.now) c.args.tables.now.rows offers.items c.requires.cycle.drafting (omega (arith, offers.ok.0, offers.ok.1, offers.small))

pub new-requires : goal.new-requires
new-requires g c =
    let agent = element_at c.args.tables.now.rows.agents c.args.place c.requires.place in
    c.is_worth_an_offer.ensures agent.0 agent.1 ∙ ap is_allocatable (sym (c.in_ok-bundle.ensures.same ∙ c.free.ensures agent.0 agent.1))

pub returns-clause-order : goal.returns-clause-order
returns-clause-order g c =
    (ordered_from (g.S.Sorter.content c.args.sorter.now) c.args.tables.now.rows c.args.drafts.now.offers.items c.requires.cycle.drafting
    (g.S.Sorter.queue c.fix_order.new.self) c.in_ok-fix_order.ensures.order).same

pub returns-clause-turn : goal.returns-clause-turn
returns-clause-turn g c =
    let rows : Rows = c.args.tables.now.rows in
    let offers = c.args.drafts.now.offers.items in
    let lefts = c.args.drafts.now.lefts.items in
    let cycle = c.requires.cycle in
    let queue = g.S.Sorter.queue c.fix_order.new.self in
    let agent = element_at rows.agents c.args.place c.requires.place in
    let is = c.new.ensures.bundle ∙ c.in_ok-bundle.ensures.same ∙ c.free.ensures agent.0 agent.1 in
    let ordered = ordered_from (g.S.Sorter.content c.args.sorter.now) rows offers cycle.drafting queue c.in_ok-fix_order.ensures.order in
    record {
      drafting = subst (λ (k : Content). IsDrafting k rows offers) (sym c.fix_order.ensures.same) cycle.drafting;
      settled = cycle.settled;
      left = left-begins rows offers lefts c.args.place agent.0 c.new.result.bundle cycle.left agent.1 is;
      quota = cycle.quota;
      inside = c.requires.place;
      is_free = record {
        agent = agent.0;
        at = ap (λ as'. slice_get as' c.args.place) (agents-with_offers rows offers) ∙ agent.1;
        free = is ∙ sym (free-before rows offers lefts c.args.place agent.0 cycle.left agent.1);
      };
      known = c.new.ensures.known (quota_under c.args.tables.now.rows.limits c.args.drafts.now.consumption);
      clients = registered_all rows (turn_order (with_offers rows offers)) queue ordered.same ordered.known c.in_ok-fix_order.ensures.right;
    }
