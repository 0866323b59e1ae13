use Rattle.std.proofs.Common.{◌≡◌, Some, sym, ap, ◌∙◌, option_copied}
use Rattle.drf_row_laws.proofs.ReleaseLaws.{held-offer_at}
use Rattle.drf_tables.proofs.tables.Names.{offer_at, OfferRow, Rows}
use Rattle.drf_row_laws.proofs.OfferLaws.{offer_filter}
use Rattle.drf_tables.proofs.filters.filter_offer.Goals as goal

pub add_filter-requires : goal.add_filter-requires
add_filter-requires c =
    let rows : Rows = c.args.tables.now.rows in
    let o : OfferRow = c.unwrap-offer.result.now in
    let found : offer_at rows c.args.number ≡ Some o = sym c.offer.ensures ∙ ap option_copied c.unwrap-offer.ensures in
    rw c.in_ok-filter.ensures
    (offer_filter rows c.args.number o o.bundle c.args.timestamp c.args.refuse_ms c.requires.consistent found
    (held-offer_at rows c.args.number o c.requires.consistent found).bundle c.requires.early)
