use Rattle.std.proofs.Common.{◌≡◌, ◌∷◌, [], ◌++◌, List, map, sym, ap, subst, ◌∙◌, append_assoc}
use Rattle.drf_rows.specs.declared.rows.OfferRow.{OfferRow}
use Rattle.drf_holdings.specs.Listed.{offer_number, AreOffersKept}
use Rattle.drf_holdings.specs.Rising.{IsRising}
use Rattle.drf_holdings.proofs.RisingLists.{rising_prefix}
use Rattle.drf_holdings.proofs.offers.OfferTable.copy.Goals as goal

pub push-requires : goal.push-requires
push-requires c =
    let at = c.loop-offer in
    let row : OfferRow = c.in_ok-row.row in
    let rest : List OfferRow = c.next.new.self in
    let split : (at.rows ++ row ∷ []) ++ rest ≡ c.self.inside.rows =
    append_assoc at.rows (row ∷ []) rest
    ∙ ap (λ (o : OfferRow). at.rows ++ (o ∷ rest)) c.in_ok-row.ensures
    ∙ ap (λ (os : List OfferRow). at.rows ++ os) (sym c.in-Some.ensures.steps)
    ∙ at.invariant.rows ∙ sym c.self.view_is in
    rising_prefix offer_number (at.rows ++ row ∷ []) rest
    (subst (λ (os : List OfferRow). IsRising (map offer_number os)) (sym split) c.self.invariant.rising)

pub loop-offer-preserved : goal.loop-offer-preserved
loop-offer-preserved c =
    let at = c.loop-offer in
    let row : OfferRow = c.in_ok-row.row in
    let rest : List OfferRow = c.next.new.self in
    let split : (at.rows ++ row ∷ []) ++ rest ≡ c.args.self.now =
    append_assoc at.rows (row ∷ []) rest
    ∙ ap (λ (o : OfferRow). at.rows ++ (o ∷ rest)) c.in_ok-row.ensures
    ∙ ap (λ (os : List OfferRow). at.rows ++ os) (sym c.in-Some.ensures.steps)
    ∙ at.invariant.rows in
    let put : c.push.new.self ≡ at.rows ++ row ∷ [] = c.in_ok-push.ensures.ok in
    let rising : IsRising (map offer_number (at.rows ++ row ∷ [])) =
    rising_prefix offer_number (at.rows ++ row ∷ []) rest
    (subst (λ (os : List OfferRow). IsRising (map offer_number os)) (c.self.view_is ∙ sym split) c.self.invariant.rising) in
    record {
      rows = ap (λ (os : List OfferRow). os ++ rest) put ∙ split;
      kept = subst (AreOffersKept c.add.new.self) (sym put) (record { rising = rising; listed = c.in_ok-add.ensures.ok at.rows at.invariant.kept.listed });
    }
