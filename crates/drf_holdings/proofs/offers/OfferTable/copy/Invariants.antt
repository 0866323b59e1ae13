use Rattle.std.proofs.Common.{◌≡◌, ◌++◌}
use Rattle.drf_holdings.specs.Listed.{AreOffersKept}
use Rattle.drf_holdings.proofs.offers.OfferTable.copy.Given as goal

abbrev pub invariant-loop-offer : goal.invariant-loop-offer
invariant-loop-offer l = record {
  rows : l.rows ++ l.offer-iterator ≡ l.self;
  kept : AreOffersKept l.index l.rows;
}
