use Rattle.std.proofs.Common.{◌≡◌, ◌+◌, ◌∷◌, [], ◌++◌, ℕ, List, map, take, drop, sym, ap, subst, ◌∙◌, append_assoc}
use Rattle.std.proofs.lemmas.List.{take_all, take_more, take-append-drop}
use Rattle.drf_rows.specs.declared.rows.OfferRow.{OfferRow}
use Rattle.drf_holdings.specs.Listed.{offer_number, AreOffersListed, AreOffersKept}
use Rattle.drf_holdings.specs.Rising.{IsRising}
use Rattle.drf_holdings.proofs.RisingLists.{rising_prefix}
use Rattle.drf_holdings.proofs.offers.OfferIndex.add_all.Goals as goal

pub loop-place-preserved : goal.loop-place-preserved
loop-place-preserved c before listed =
    let offers : List OfferRow = c.args.offers.now in
    let i = c.loop-place.place in
    let offer : OfferRow = c.index-offers-place.result in
    let more : (before ++ take i offers) ++ offer ∷ [] ≡ before ++ take (i + 1) offers =
    append_assoc before (take i offers) (offer ∷ [])
    ∙ ap (λ (os : List OfferRow). before ++ os)
    ((λ j. take i offers ++ c.index-offers-place.is j ∷ []) ∙ sym (take_more offers i offer c.loop-place-test.true)) in
    subst (AreOffersListed c.add.new.self) more
    (c.in_default.ensures.ok (before ++ take i offers) (c.loop-place.invariant before listed))

pub returns-in-Err-clause-err : goal.returns-in-Err-clause-err
returns-in-Err-clause-err c before rising listed =
    let offers : List OfferRow = c.args.offers.now in
    let i = c.loop-place.place in
    let offer : OfferRow = c.index-offers-place.result in
    let more : before ++ take (i + 1) offers ≡ (before ++ take i offers) ++ offer ∷ [] =
    ap (λ (os : List OfferRow). before ++ os)
    (take_more offers i offer c.loop-place-test.true ∙ (λ j. take i offers ++ sym c.index-offers-place.is j ∷ []))
    ∙ sym (append_assoc before (take i offers) (offer ∷ [])) in
    let prefix : (n : ℕ) → IsRising (map offer_number (before ++ take n offers)) = λ n.
    let whole : before ++ offers ≡ (before ++ take n offers) ++ drop n offers =
    ap (λ (os : List OfferRow). before ++ os) (sym (take-append-drop n offers)) ∙ sym (append_assoc before (take n offers) (drop n offers)) in
    rising_prefix offer_number (before ++ take n offers) (drop n offers)
    (subst (λ (os : List OfferRow). IsRising (map offer_number os)) whole rising) in
    let here : AreOffersKept c.add.new.self (before ++ take i offers) = record {
      rising = prefix i;
      listed = c.in-Err.ensures.err (before ++ take i offers)
          (subst (λ (os : List OfferRow). IsRising (map offer_number os)) more (prefix (i + 1)))
          (c.loop-place.invariant before listed);
    } in
    c.remove_all.ensures before here

pub returns-clause-ok : goal.returns-clause-ok
returns-clause-ok c before listed =
    let offers : List OfferRow = c.args.offers.now in
    subst (λ (os : List OfferRow). AreOffersListed c.loop-place.self (before ++ os)) (take_all c.loop-place.place offers c.loop-place-test.false)
    (c.loop-place.invariant before listed)
