use Rattle.std.proofs.Common.{ap, arith}
use Rattle.std.specs.Prelude.{max}
use Rattle.drf_rows.specs.Cycle.{at_timestamp}
use Rattle.drf_rows.specs.Releases.{one_offer}
use Rattle.drf_rows.specs.Offers.{filters_with, filters_all}
use Rattle.drf_rows.specs.declared.rows.Rows.{Rows}
use Rattle.drf_sorter.proofs.theorems.SpendLaws.{defers-on_ok, defers-within}
use Rattle.drf_core.specs.Working.{losers, nodes_of}
use Rattle.drf_row_laws.proofs.OfferLaws.{some_offer}
use Rattle.drf_core.proofs.effects.Accepted.{sorted-declined, rows_declined, effect-decline}
use Rattle.drf_core.proofs.cluster.Cluster.decline.Goals as goal

pub invariant_of-self-2 : goal.invariant_of-self-2
invariant_of-self-2 g c =
    let rows : Rows = c.self.inside.tables.rows in
    let d = c.args.decline.now in
    let one = some_offer rows d.offer (rw (← c.self.view_is) at c.requires.offer) in
    sorted-declined rows c.filter_declined.new.self.rows (filters_with (at_timestamp rows d.at) (filters_all d.refuse_ms) one.offer one.offer.bundle d.refuse_ms)
    (max rows.clock d.at) (g.S.Sorter.content c.self.inside.sorter) c.self.invariant (c.in_ok-filter_declined.ensures.ok one.offer one.at)

pub returns-clause-ok : goal.returns-clause-ok
returns-clause-ok g c = rw (← c.self.view_is) (
    let rows : Rows = c.self.inside.tables.rows in
    let d = c.args.decline.now in
    let one = some_offer rows d.offer (rw (← c.self.view_is) at c.requires.offer) in
    effect-decline rows c.end.new.self.rows d one.offer one.at
    (rows_declined rows c.filter_declined.new.self.rows c.end.new.self.rows d.offer one.offer d.at d.refuse_ms one.at
    (c.in_ok-filter_declined.ensures.ok one.offer one.at) c.end.ensures.rows))

pub returns-clause-spends : goal.returns-clause-spends
returns-clause-spends g c =
    let rows : Rows = c.self.inside.tables.rows in
    let d = c.args.decline.now in
    let one = some_offer rows d.offer (rw (← c.self.view_is) at c.requires.offer) in
    rw (← c.self.view_is) (defers-on_ok _ (defers-within c.end.ensures.spends
    (omega (arith, ap (λ (r : Rows). nodes_of (losers r (one_offer d.offer))) (c.in_ok-filter_declined.ensures.ok one.offer one.at)))))
