use Rattle.std.proofs.Common.{◌≡◌, ◌≤◌, ◌^◌, ℕ, List, Option, map, ap, ◌∙◌, subst, sym, arith}
use Rattle.drf_rows.specs.Step.{line_reported, new_offers}
use Rattle.drf_rows.specs.declared.reply.Reply.TheVariants.{Offers}
use Rattle.drf_rows.specs.declared.rows.Rows.{Rows}
use Rattle.drf_rows.specs.declared.rows.OfferRow.{OfferRow}
use Rattle.drf_sorter.proofs.theorems.SameLaws.{IsSame-between}
use Rattle.drf_sorter.proofs.theorems.SpendLaws.{spends-on_ok, spends-within}
use Rattle.drf_core.specs.cycle.Drafting.{IsDrafting, turns_of}
use Rattle.drf_core.specs.Working.{nodes_of, offered_to}
use Rattle.drf_gates.specs.quota.Allowance.{Usage, quota_under}
use Rattle.drf_core.specs.cycle.Entitling.{IsQuotaOf}
use Rattle.drf_tables.proofs.DraftLaws.{next-with_offers, with_offers-added}
use Rattle.drf_tables.specs.cycle.Drafts.{with_offers}
use Rattle.drf_core.proofs.drafting.Cycle.{cycle-begins, counts_all, is_counting, new_offers-drafts}
use Rattle.drf_content.specs.Content.{content_of}
use Rattle.drf_core.proofs.drafting.Closed.{no_offers}
use Rattle.drf_core.proofs.cycle.offer_all.Goals as goal

pub turns-requires-clause-cycle : goal.turns-requires-clause-cycle
turns-requires-clause-cycle g c =
    let offers = c.args.drafts.now.offers.items in
    let drafting : IsDrafting (g.S.Sorter.content c.is_idle.new.sorter) c.settle.new.self.rows offers = rw (c.is_idle.ensures.content, c.settle.ensures.same) c.requires.drafting in
    cycle-begins _ _ c.settle.new.self.rows _ c.lend_consumption.ensures.same drafting (c.lend_consumption.ensures.settled ∙ c.in_ok-settle.ensures.settled)
    c.requires.none c.requires.nothing_left c.in_ok-drafts.ensures.quota

pub commit-requires-clause-fits : goal.commit-requires-clause-fits
commit-requires-clause-fits g c =
    let rows : Rows = c.lend_consumption.new.tables.rows in
    let offers = c.turns.new.drafts.offers in
    let low_number : c.args.tables.now.rows.next_offer ≤ 2 ^ 57 = c.requires.drafting.low_number in
    let same : rows.next_offer ≡ c.args.tables.now.rows.next_offer = ap (λ (r : Rows). r.next_offer) (c.lend_consumption.ensures.same ∙ c.settle.ensures.same) in
    omega (arith, next-with_offers rows offers.items, low_number, same, offers.ok.0, offers.ok.1, offers.small)

pub commit-requires-clause-consumption : goal.commit-requires-clause-consumption
commit-requires-clause-consumption g c =
    let after : Rows = with_offers c.lend_consumption.new.tables.rows c.turns.new.drafts.offers.items in
    counts_all after c.lend_consumption.new.tables.rows.limits c.take-consumption.result
    (subst (λ (o : Option (List Usage)). IsQuotaOf after (quota_under c.lend_consumption.new.tables.rows.limits o)) (sym c.take-consumption.ensures.value) c.in_ok-turns.ensures.cycle.quota)

-- if any role has a limit, consumption is known
pub returns-clause-counted : goal.returns-clause-counted
returns-clause-counted g c = λ some.
    let rows : Rows = c.lend_consumption.new.tables.rows in
    let after : Rows = with_offers rows c.turns.new.drafts.offers.items in
    let limits : after.limits ≡ c.args.tables.now.rows.limits =
    ap (λ (r : Rows). r.limits) (with_offers-added rows c.turns.new.drafts.offers.items)
    ∙ ap (λ (r : Rows). r.limits) (c.lend_consumption.ensures.same ∙ c.settle.ensures.same) in
    c.in_ok-commit.ensures.counted
    ∙ is_counting after rows.limits c.take-consumption.result
    (subst (λ (o : Option (List Usage)). IsQuotaOf after (quota_under c.lend_consumption.new.tables.rows.limits o)) (sym c.take-consumption.ensures.value) c.in_ok-turns.ensures.cycle.quota)
    (λ none. some (sym limits ∙ none))

pub returns-clause-reply : goal.returns-clause-reply
returns-clause-reply g c =
    let same = c.lend_consumption.ensures.same ∙ c.settle.ensures.same in
    c.in_ok-stepped-2.ensures.reply
    ∙ ap Offers (c.in_ok-from_vec.ensures.rows ∙ c.in_ok-lines.ensures
    ∙ ap (map line_reported) (c.deref.ensures.value
    ∙ sym (new_offers-drafts c.lend_consumption.new.tables.rows c.turns.new.drafts.offers.items c.in_ok-turns.ensures.turns)
    ∙ (λ i. new_offers (same i) (turns_of (same i)))))

pub returns-clause-spends : goal.returns-clause-spends
returns-clause-spends g c =
    let Nodes : List OfferRow → ℕ = λ os. nodes_of (offered_to os) in
    let drafts = c.turns.new.drafts.offers.items in
    let same = c.lend_consumption.ensures.same ∙ c.settle.ensures.same in
    let new : drafts ≡ new_offers c.args.tables.now.rows (turns_of c.args.tables.now.rows) =
    sym (new_offers-drafts c.lend_consumption.new.tables.rows drafts c.in_ok-turns.ensures.turns)
    ∙ (λ i. new_offers (same i) (turns_of (same i))) in
    record {
      made = omega (arith, c.is_idle.ensures.spends.made, c.turns.ensures.made);
      work = λ counted. omega (arith, c.is_idle.ensures.spends.work counted, c.in_ok-turns.ensures.work counted, ap Nodes c.requires.none, ap Nodes new);
    }

-- ---- no client is tried

pub returns-then-idle-clause-ok : goal.returns-then-idle-clause-ok
returns-then-idle-clause-ok g c =
    c.count_consumption.ensures.same ∙ sym (c.in_ok-idle.ensures.idle c.if-idle.true) ∙ ap turns_of c.settle.ensures.same

pub returns-then-idle-clause-sorted : goal.returns-then-idle-clause-sorted
returns-then-idle-clause-sorted g c =
    IsSame-between _ _ _ _ c.is_idle.ensures.content c.requires.drafting.sorted
    (ap (λ (os : List OfferRow). content_of (with_offers c.args.tables.now.rows os)) c.requires.none
    ∙ ap content_of (sym (c.count_consumption.ensures.same ∙ c.settle.ensures.same)))

pub returns-then-idle-clause-reply : goal.returns-then-idle-clause-reply
returns-then-idle-clause-reply g c =
    let same = c.settle.ensures.same in
    c.in_ok-stepped.ensures.reply
    ∙ ap Offers (c.empty.ensures
    ∙ ap (map line_reported)
    (sym (no_offers c.settle.new.self.rows (c.in_ok-idle.ensures.idle c.if-idle.true)) ∙ (λ i. new_offers (same i) (turns_of (same i)))))

pub returns-then-idle-clause-spends : goal.returns-then-idle-clause-spends
returns-then-idle-clause-spends g c = spends-on_ok _ (spends-within c.is_idle.ensures.spends (omega arith))
