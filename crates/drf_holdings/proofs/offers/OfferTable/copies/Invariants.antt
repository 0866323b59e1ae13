use Rattle.std.proofs.Common.{◌≡◌, ◌++◌}
use Rattle.drf_holdings.proofs.offers.OfferTable.copies.Given as goal

abbrev pub invariant-loop-offer : goal.invariant-loop-offer
invariant-loop-offer l = l.copies.items ++ l.offer-iterator ≡ l.self
