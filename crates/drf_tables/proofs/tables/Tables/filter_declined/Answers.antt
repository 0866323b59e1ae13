use Rattle.std.proofs.Common.{ap, subst, ◌∙◌, max}
use Rattle.drf_tables.proofs.tables.Names.{IsConsistent, Rows, Stored}
use Rattle.drf_row_laws.proofs.OfferLaws.{timestamp_early}
use Rattle.drf_tables.specs.Inside.{rows_of}
use Rattle.drf_tables.proofs.offers.Accepted.{rows_refused}
use Rattle.drf_tables.proofs.tables.Tables.filter_declined.Goals as goal

pub filter_offer-requires-clause-consistent : goal.filter_offer-requires-clause-consistent
filter_offer-requires-clause-consistent c = subst (λ (s : Stored). IsConsistent s.rows) c.self.view_is c.self.invariant.kept.consistent

pub filter_offer-requires-clause-early : goal.filter_offer-requires-clause-early
unfolding rows_of
filter_offer-requires-clause-early c =
    let rows : Rows = c.args.self.now.rows in
    timestamp_early rows c.args.decline.now.at c.max-timestamp.result
    (subst (λ (s : Stored). IsConsistent s.rows) c.self.view_is c.self.invariant.kept.consistent) c.requires.early
    (c.max-timestamp.ensures ∙ ap (λ (s : Stored). max s.rows.clock c.args.decline.now.at) c.self.view_is)

pub set_clock-requires : goal.set_clock-requires
unfolding rows_of
set_clock-requires c =
    let rows : Rows = c.args.self.now.rows in
    timestamp_early rows c.args.decline.now.at c.max-timestamp.result
    (subst (λ (s : Stored). IsConsistent s.rows) c.self.view_is c.self.invariant.kept.consistent) c.requires.early
    (c.max-timestamp.ensures ∙ ap (λ (s : Stored). max s.rows.clock c.args.decline.now.at) c.self.view_is)

pub returns-clause-ok : goal.returns-clause-ok
unfolding rows_of
returns-clause-ok c = λ o at.
    rows_refused c.args.self.now.rows c.set_clock.new.self.rows o c.args.decline.now.at c.max-timestamp.result c.args.decline.now.refuse_ms
    (c.max-timestamp.ensures ∙ ap (λ (s : Stored). max s.rows.clock c.args.decline.now.at) c.self.view_is)
    (c.set_clock.ensures ∙ (λ i. record (c.in_ok-filter_offer.ensures.ok o at i) { clock = c.max-timestamp.result }))
