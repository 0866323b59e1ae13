use Rattle.std.proofs.Common.{◌≡◌, List, map, ap, subst, sym, ◌∙◌, arith}
use Rattle.std.specs.Prelude.{max}
use Rattle.drf_rows.specs.Step.{line_reported, new_offers, effect}
use Rattle.drf_rows.specs.declared.event.Event.TheVariants.{Cycle}
use Rattle.drf_rows.specs.declared.reply.Reply.TheVariants.{Offers}
use Rattle.drf_rows.specs.declared.rows.Rows.{Rows}
use Rattle.drf_sorter.specs.Content.{IsSame}
use Rattle.drf_content.specs.Content.{content_of}
use Rattle.drf_rows.specs.declared.rows.OfferRow.{OfferRow}
use Rattle.drf_core.specs.cycle.Drafting.{turns_of}
use Rattle.drf_core.specs.Working.{nodes_of, offered_to}
use Rattle.drf_row_laws.proofs.OfferLaws.{timestamp_early}
use Rattle.drf_laws.proofs.theorems.Welcome.{early_cycle}
use Rattle.drf_core.proofs.drafting.Cycle.{drafting-begins, turns_of-cycle, new_offers-cycle, content_of-clock}
use Rattle.drf_core.proofs.cluster.Cluster.cycle.Goals.{After-offer_all}
use Rattle.drf_core.proofs.cluster.Cluster.cycle.Given as given
use Rattle.drf_core.proofs.cluster.Cluster.cycle.Goals as goal

pub set_clock-requires : goal.set_clock-requires
set_clock-requires g c =
    let kept = rw (← c.self.view_is) at c.requires.kept in
    timestamp_early c.self.inside.tables.rows c.args.at c.max.result kept.consistent
    (early_cycle c.args.limits.now c.self.inside.tables.rows c.args.at (rw (← c.self.view_is) at c.requires.welcome))
    (c.max.ensures ∙ ap (λ n. max n c.args.at) c.clock-before.ensures)

pub offer_all-requires-clause-drafting : goal.offer_all-requires-clause-drafting
offer_all-requires-clause-drafting g c =
    let kept = rw (← c.self.view_is) at c.requires.kept in
    drafting-begins (g.S.Sorter.content c.self.inside.sorter) c.args.limits.now c.self.inside.tables.rows c.set_clock.new.self.rows c.max.result c.new.result.items
    c.self.invariant kept (timestamp_early c.self.inside.tables.rows c.args.at c.max.result kept.consistent
    (early_cycle c.args.limits.now c.self.inside.tables.rows c.args.at (rw (← c.self.view_is) at c.requires.welcome)) (c.max.ensures ∙ ap (λ n. max n c.args.at) c.clock-before.ensures)) c.set_clock.ensures c.new.ensures.items

pub invariant_of-self : goal.invariant_of-self
invariant_of-self g c = c.in-Ok.ensures.sorted

pub invariant_of-self-in-Err : goal.invariant_of-self-in-Err
invariant_of-self-in-Err g c =
    subst (IsSame _) (sym (ap content_of c.set_clock-in-Err.ensures ∙ content_of-clock c.offer_all.new.tables.rows c.clock-before.result))
    c.take_back.ensures.content

pub returns-clause-err : goal.returns-clause-err
returns-clause-err g c =
    let rows : Rows = c.self.inside.tables.rows in
    let same : c.offer_all.new.tables.rows ≡ record rows { clock = c.max.result } = c.in-Err.ensures.err ∙ c.set_clock.ensures in
    rw (← c.self.view_is) (c.set_clock-in-Err.ensures ∙ (λ i. record (same i) { clock = c.clock-before.ensures i }))

-- the rows after all turns are those after the cycle
turned : (g : given.Over) (c : After-offer_all g) → turns_of c.set_clock.new.self.rows ≡ effect c.self.inside.tables.rows (Cycle c.args.at)
turned g c =
    turns_of-cycle c.self.inside.tables.rows c.set_clock.new.self.rows c.args.at c.max.result
    (c.max.ensures ∙ ap (λ n. max n c.args.at) c.clock-before.ensures) c.set_clock.ensures

pub returns-in-Ok-clause-ok : goal.returns-in-Ok-clause-ok
returns-in-Ok-clause-ok g c = rw (← c.self.view_is) (c.in-Ok.ensures.ok ∙ turned g (goal.at.returns-in-Ok-clause-ok g c).After-offer_all)

pub returns-in-Ok-clause-reply : goal.returns-in-Ok-clause-reply
returns-in-Ok-clause-reply g c =
    let rows : Rows = c.self.inside.tables.rows in
    rw (← c.self.view_is) (c.in-Ok.ensures.reply
    ∙ ap (λ os. Offers (map line_reported os)) (new_offers-cycle rows c.set_clock.new.self.rows c.max.result (turns_of c.set_clock.new.self.rows) c.set_clock.ensures
    ∙ ap (new_offers rows) (turned g (goal.at.returns-in-Ok-clause-reply g c).After-offer_all)))

pub returns-in-Ok-clause-spends : goal.returns-in-Ok-clause-spends
returns-in-Ok-clause-spends g c =
    let rows : Rows = c.self.inside.tables.rows in
    let new = new_offers-cycle rows c.set_clock.new.self.rows c.max.result (turns_of c.set_clock.new.self.rows) c.set_clock.ensures
    ∙ ap (new_offers rows) (turned g (goal.at.returns-in-Ok-clause-spends g c).After-offer_all) in
    rw (← c.self.view_is) (record {
      made = c.in-Ok.ensures.spends.made;
      work = λ counted. omega (arith, c.in-Ok.ensures.spends.work counted, ap (λ (os : List OfferRow). nodes_of (offered_to os)) new);
    })

pub returns-in-Ok-clause-counted : goal.returns-in-Ok-clause-counted
returns-in-Ok-clause-counted g c =
    rw (← c.self.view_is) (λ some. c.in-Ok.ensures.counted (λ none. some (sym (ap (λ (r : Rows). r.limits) c.set_clock.ensures) ∙ none)))
