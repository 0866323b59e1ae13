use Rattle.std.proofs.Common.{◌≡◌, Some, sym, ap, subst, ◌∙◌, nat_lt, ◌&&◌, max, not, option_copied}
use Rattle.drf_tables.proofs.tables.Names.{IsConsistent, at_timestamp, offer_accepted, filter_of, is_empty, left_of_offer, offer_at, filtered_until, filters_rest, OfferRow, Rows, Stored}
use Rattle.drf_row_laws.proofs.OfferLaws.{timestamp_early, same_offer}
use Rattle.drf_tables.specs.offers.Ended.{filter_if}
use Rattle.drf_tables.specs.Inside.{rows_of}
use Rattle.drf_tables.proofs.offers.Accepted.{accept_filter, rows_accepted}
use Rattle.drf_tables.proofs.tables.Tables.accept.Goals as goal

pub start-requires-clause-bundles : goal.start-requires-clause-bundles
start-requires-clause-bundles c = c.as_slice.ensures.right.bundles

pub start-requires-clause-filter : goal.start-requires-clause-filter
unfolding rows_of
start-requires-clause-filter c =
    let rows : Rows = c.args.self.now.rows in
    let a = c.args.accept in
    let o : OfferRow = c.unwrap-offer.result.now in
    let found : offer_at rows a.offer ≡ Some o = sym c.offer.ensures ∙ ap option_copied c.unwrap-offer.ensures in
    let consistent : IsConsistent rows = subst (λ (s : Stored). IsConsistent s.rows) c.self.view_is c.self.invariant.kept.consistent in
    let rest_is : c.in_ok-rest.rest ≡ left_of_offer o a.tasks = c.in_ok-rest.ensures in
    let later : c.max-timestamp.result ≡ max rows.clock a.at = c.max-timestamp.ensures ∙ ap (λ (s : Stored). max s.rows.clock a.at) c.self.view_is in
    let reported : c.in_ok-filter.filter
    ≡ filter_if (filters_rest o a.tasks a.refuse_ms) (filter_of o (left_of_offer o a.tasks) (filtered_until c.max-timestamp.result a.refuse_ms))
    = c.in_ok-filter.ensures
    ∙ (λ i. filter_if (nat_lt 0 a.refuse_ms && not (is_empty (rest_is i))) (filter_of o (rest_is i) (filtered_until c.max-timestamp.result a.refuse_ms))) in
    accept_filter rows a.offer a.tasks o c.in_ok-filter.filter (filters_rest o a.tasks a.refuse_ms) c.max-timestamp.result a.refuse_ms consistent found
    (timestamp_early rows a.at c.max-timestamp.result consistent c.requires.early later) reported

pub start-requires-clause-rest : goal.start-requires-clause-rest
start-requires-clause-rest c = λ p at.
    let rows : Rows = c.args.self.now.rows in
    let a = c.args.accept in
    let o : OfferRow = c.unwrap-offer.result.now in
    let found : offer_at rows a.offer ≡ Some o = sym c.offer.ensures ∙ ap option_copied c.unwrap-offer.ensures in
    c.in_ok-rest.ensures ∙ ap (λ (x : OfferRow). left_of_offer x a.tasks) (same_offer rows a.offer o p found at)

pub start-requires-clause-early : goal.start-requires-clause-early
unfolding rows_of
start-requires-clause-early c =
    let rows : Rows = c.args.self.now.rows in
    let a = c.args.accept in
    timestamp_early rows a.at c.max-timestamp.result
    (subst (λ (s : Stored). IsConsistent s.rows) c.self.view_is c.self.invariant.kept.consistent) c.requires.early
    (c.max-timestamp.ensures ∙ ap (λ (s : Stored). max s.rows.clock a.at) c.self.view_is)

pub returns-clause-bundles : goal.returns-clause-bundles
returns-clause-bundles c = c.as_slice.ensures.right.bundles

pub returns-clause-ok : goal.returns-clause-ok
unfolding rows_of
returns-clause-ok c = λ p at.
    let rows : Rows = c.args.self.now.rows in
    let a = c.args.accept in
    let o : OfferRow = c.unwrap-offer.result.now in
    let found : offer_at rows a.offer ≡ Some o = sym c.offer.ensures ∙ ap option_copied c.unwrap-offer.ensures in
    let rest_is : c.in_ok-rest.rest ≡ left_of_offer o a.tasks = c.in_ok-rest.ensures in
    let later : c.max-timestamp.result ≡ max rows.clock a.at = c.max-timestamp.ensures ∙ ap (λ (s : Stored). max s.rows.clock a.at) c.self.view_is in
    let reported : c.in_ok-filter.filter
    ≡ filter_if (filters_rest o a.tasks a.refuse_ms) (filter_of o (left_of_offer o a.tasks) (filtered_until c.max-timestamp.result a.refuse_ms))
    = c.in_ok-filter.ensures
    ∙ (λ i. filter_if (nat_lt 0 a.refuse_ms && not (is_empty (rest_is i))) (filter_of o (rest_is i) (filtered_until c.max-timestamp.result a.refuse_ms))) in
    subst (λ (x : OfferRow). c.start.new.self.rows ≡ offer_accepted (at_timestamp rows a.at) x a.tasks a.refuse_ms) (same_offer rows a.offer o p found at)
    (rows_accepted rows c.start.new.self.rows o a.tasks c.in_ok-filter.filter a.at c.max-timestamp.result a.refuse_ms later reported
    (c.in_ok-taken.ensures.ok o found))
