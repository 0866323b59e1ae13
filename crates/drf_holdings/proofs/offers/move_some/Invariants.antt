use Rattle.std.proofs.Common.{◌≡◌, ◌++◌, List, length, reverse, vec_capacity}
use Rattle.drf_rows.specs.declared.rows.OfferRow.{OfferRow}
use Rattle.drf_holdings.proofs.offers.move_some.Given as goal

abbrev pub invariant-loop-offer : goal.invariant-loop-offer
invariant-loop-offer l = record {
  all : l.rows ++ reverse l.offers.items ≡ l.fn.rows ++ reverse l.fn.offers.items;
  prefix : (moved : List OfferRow) × (l.rows ≡ l.fn.rows ++ moved);
  room : vec_capacity l.offers ≡ vec_capacity l.fn.offers;
}

abbrev pub decreases-loop-offer : goal.decreases-loop-offer
decreases-loop-offer l = length l.offers.items
