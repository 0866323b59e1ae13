use Rattle.std.proofs.Common.{List, ◌++◌, drop}
use Rattle.drf_rows.specs.declared.rows.OfferRow.{OfferRow}
use Rattle.drf_holdings.specs.Listed.{AreOffersKept}
use Rattle.drf_holdings.proofs.offers.OfferIndex.remove_all.Given as goal

abbrev pub invariant-loop-offer : goal.invariant-loop-offer
invariant-loop-offer l =
    (before : List OfferRow) → AreOffersKept l.fn.self (before ++ l.offers) → AreOffersKept l.self (before ++ drop l.offer-index l.offers)
