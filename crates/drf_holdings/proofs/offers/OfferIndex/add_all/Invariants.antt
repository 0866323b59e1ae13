use Rattle.std.proofs.Common.{List, ◌++◌, take}
use Rattle.drf_rows.specs.declared.rows.OfferRow.{OfferRow}
use Rattle.drf_holdings.specs.Listed.{AreOffersListed}
use Rattle.drf_holdings.proofs.offers.OfferIndex.add_all.Given as goal

abbrev pub invariant-loop-place : goal.invariant-loop-place
invariant-loop-place l =
    (before : List OfferRow) → AreOffersListed l.fn.self before → AreOffersListed l.self (before ++ take l.place l.offers)
