use Rattle.std.proofs.Common.{◌≡◌, ◌+◌, ◌∷◌, ◌++◌, List, drop, drop-cons, add-one, sym, ap, subst, ◌∙◌}
use Rattle.std.proofs.lemmas.List.{append-nil, drop_all}
use Rattle.drf_rows.specs.declared.rows.OfferRow.{OfferRow}
use Rattle.drf_holdings.specs.Listed.{offer_number, AreOffersListed, AreOffersKept}
use Rattle.drf_holdings.proofs.RisingLists.{rising_out}
use Rattle.drf_holdings.proofs.offers.OfferIndex.remove_all.Goals as goal

pub loop-offer-preserved : goal.loop-offer-preserved
loop-offer-preserved c before kept =
    let at = c.loop-offer in
    let offers : List OfferRow = c.args.offers.now in
    let offer : OfferRow = c.offer-item.result in
    let rest : List OfferRow = drop (at.offer-index + 1) offers in
    let split : drop at.offer-index offers ≡ offer ∷ rest =
    drop-cons offers at.offer-index offer c.loop-offer-test.true
    ∙ (λ i. sym c.offer-item.is i ∷ drop (sym (add-one at.offer-index) i) offers) in
    let here : AreOffersKept at.self (before ++ offer ∷ rest) =
    subst (λ (os : List OfferRow). AreOffersKept at.self (before ++ os)) split (at.invariant before kept) in
    record {
      rising = rising_out offer_number before rest offer here.rising;
      listed = c.remove.ensures before rest here.rising here.listed;
    }

pub returns : goal.returns
returns c before kept =
    let at = c.loop-offer in
    let offers : List OfferRow = c.args.offers.now in
    subst (AreOffersListed at.self) (ap (λ (os : List OfferRow). before ++ os) (drop_all at.offer-index offers c.loop-offer-test.false) ∙ append-nil before)
    (at.invariant before kept).listed
