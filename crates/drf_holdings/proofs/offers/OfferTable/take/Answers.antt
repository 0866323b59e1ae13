use Rattle.std.proofs.Common.{◌==◌, List, find, map, sym, ap, subst, ◌∙◌}
use Rattle.drf_rows.specs.declared.rows.OfferRow.{OfferRow}
use Rattle.drf_holdings.specs.Listed.{offer_number, AreOffersListed, AreOffersKept}
use Rattle.drf_holdings.specs.Rising.{IsRising}
use Rattle.drf_holdings.specs.Taking.{IsTaken, HasNone}
use Rattle.drf_holdings.proofs.RisingLists.{rising_out}
use Rattle.drf_holdings.proofs.offers.OfferTable.take.Goals as goal

pub invariant_of-self : goal.invariant_of-self
invariant_of-self c =
    subst (AreOffersKept c.self.inside.index) (sym c.in_err-offer.ensures.taken.same) c.self.invariant

pub returns-in_err-offer-clause-found : goal.returns-in_err-offer-clause-found
returns-in_err-offer-clause-found c =
    c.from_residual.ensures ∙ c.in_err-offer.ensures.found ∙ ap (find (λ (o : OfferRow). o.number == c.args.number)) c.self.view_is

pub returns-in_err-offer-clause-taken : goal.returns-in_err-offer-clause-taken
returns-in_err-offer-clause-taken c =
    rw c.from_residual.ensures (subst (λ (old : List OfferRow). HasNone (λ o. o.number == c.args.number) old c.take.new.self)
    c.self.view_is c.in_err-offer.ensures.taken)

pub invariant_of-self-2 : goal.invariant_of-self-2
invariant_of-self-2 c =
    let offer = c.in_ok-offer.offer in
    let out = c.in_ok-offer.ensures.taken in
    let rising = subst (λ (os : List OfferRow). IsRising (map offer_number os)) out.whole c.self.invariant.rising in
    let listed = subst (AreOffersListed c.self.inside.index) out.whole c.self.invariant.listed in
    record {
      rising = subst (λ (os : List OfferRow). IsRising (map offer_number os)) (sym out.left) (rising_out offer_number out.before out.after offer rising);
      listed = subst (AreOffersListed c.remove.new.self) (sym out.left) (c.remove.ensures out.before out.after rising listed);
    }

pub returns-clause-found : goal.returns-clause-found
returns-clause-found c = c.in_ok-offer.ensures.found ∙ ap (find (λ (o : OfferRow). o.number == c.args.number)) c.self.view_is

pub returns-clause-taken : goal.returns-clause-taken
returns-clause-taken c =
    subst (λ (old : List OfferRow). IsTaken (λ o. o.number == c.args.number) old c.take.new.self c.in_ok-offer.offer)
    c.self.view_is c.in_ok-offer.ensures.taken
