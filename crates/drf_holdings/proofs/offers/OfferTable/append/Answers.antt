use Rattle.std.proofs.Common.{◌≡◌, ◌++◌, List, map, sym, subst, ◌∙◌}
use Rattle.drf_rows.specs.declared.rows.OfferRow.{OfferRow}
use Rattle.drf_holdings.specs.Listed.{offer_number, AreOffersListed, AreOffersKept}
use Rattle.drf_holdings.specs.Rising.{IsRising}
use Rattle.drf_holdings.proofs.offers.OfferTable.append.Goals as goal

pub move_all-requires : goal.move_all-requires
move_all-requires c =
    subst (λ (os : List OfferRow). IsRising (map offer_number (os ++ c.args.offers.now.items))) (sym c.self.view_is) c.requires

pub invariant_of-self-in-Err : goal.invariant_of-self-in-Err
invariant_of-self-in-Err c =
    let rows : List OfferRow = c.self.inside.rows in
    let offers = c.args.offers.now.items in
    let rising : IsRising (map offer_number (rows ++ offers)) =
    subst (λ (os : List OfferRow). IsRising (map offer_number (os ++ offers))) (sym c.self.view_is) c.requires in
    let added : AreOffersListed c.add_all.new.self (rows ++ offers) =
    subst (λ (os : List OfferRow). AreOffersListed c.add_all.new.self (rows ++ os)) c.deref.ensures.value
    (c.in_ok-add_all.ensures.ok rows c.self.invariant.listed) in
    let same : c.deref-in-Err.result.now ≡ offers = c.deref-in-Err.ensures.value ∙ c.in-Err.ensures.err.1 in
    let kept : AreOffersKept c.add_all.new.self (rows ++ c.deref-in-Err.result.now) =
    subst (λ (os : List OfferRow). AreOffersKept c.add_all.new.self (rows ++ os)) (sym same) (record { rising = rising; listed = added }) in
    subst (AreOffersKept c.remove_all.new.self) (sym c.in-Err.ensures.err.0) (record {
      rising = c.self.invariant.rising;
      listed = c.remove_all.ensures rows kept;
    })

pub invariant_of-self-in_default : goal.invariant_of-self-in_default
invariant_of-self-in_default c =
    let rows : List OfferRow = c.self.inside.rows in
    let offers = c.args.offers.now.items in
    let listed : AreOffersListed c.add_all.new.self (rows ++ offers) =
    subst (λ (os : List OfferRow). AreOffersListed c.add_all.new.self (rows ++ os)) c.deref.ensures.value
    (c.in_ok-add_all.ensures.ok rows c.self.invariant.listed) in
    let rising : IsRising (map offer_number (rows ++ offers)) =
    subst (λ (os : List OfferRow). IsRising (map offer_number (os ++ offers))) (sym c.self.view_is) c.requires in
    subst (AreOffersKept c.add_all.new.self) (sym c.in_default.ensures.ok) (record { rising = rising; listed = listed })
