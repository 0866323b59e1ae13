use Rattle.std.proofs.Common.{◌∷◌, ◌++◌, [], List, map, filter, ap, sym, subst, ◌∙◌}
use Rattle.std.proofs.lemmas.List.{append-nil}
use Rattle.drf_holdings.specs.Listed.{numbers_in, offer_number, offer_on, AreOffersListed}
use Rattle.drf_holdings.specs.Rising.{IsRising}
use Rattle.drf_rows.specs.declared.rows.OfferRow.{OfferRow}
use Rattle.drf_holdings.proofs.Lists.{on_err}
use Rattle.drf_holdings.proofs.Numbered.{listed_in, listed_out}
use Rattle.drf_holdings.proofs.RisingLists.{rising_some, others_split}
use Rattle.drf_holdings.proofs.offers.OfferIndex.add.Goals as goal

pub returns-in_err-add-clause-err : goal.returns-in_err-add-clause-err
returns-in_err-add-clause-err c =
    let same : (offers : List OfferRow) → IsRising (map offer_number (offers ++ c.args.offer.now ∷ [])) → AreOffersListed c.args.self.now offers
    → AreOffersListed (record { agents = c.add.new.self; frameworks = c.args.self.now.frameworks }) offers
    = λ offers rising listed. record {
      agents = λ n. c.in_err-add.ensures.err n ∙ listed.agents n;
      frameworks = listed.frameworks;
    } in
    on_err _ _ same

pub returns-in-Err-clause-err : goal.returns-in-Err-clause-err
returns-in-Err-clause-err c offers rising listed =
    let offer = c.args.offer.now in
    let added = listed_in offer_number offer_on (numbers_in c.args.self.now.agents) (numbers_in c.add.new.self) offers offer listed.agents c.in_ok-add.ensures.ok in
    let others = others_split offer_number offers [] offer rising in
    let those = subst IsRising (sym (added offer.agent)) (rising_some offer_number (offer_on offer.agent) (offers ++ offer ∷ []) rising) in
    let out = listed_out offer_number offers [] offer others.0 tt offer_on (numbers_in c.add.new.self) (numbers_in c.remove.new.self) added (c.remove.ensures those) in
    record {
      agents = λ n. out n ∙ ap (λ os. map offer_number (filter (offer_on n) os)) (append-nil offers);
      frameworks = λ n. c.in-Err.ensures.err n ∙ listed.frameworks n;
    }
