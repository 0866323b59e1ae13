use Rattle.std.proofs.Common.{◌≡◌, List, [], map, filter, flat_map, refl, ap, subst, ◌∙◌, IfOk}
use Rattle.drf_bundle.specs.Taken.{rest_of_all}
use Rattle.drf_bundle.specs.declared.resource.Resource.{Resource}
use Rattle.drf_rows.specs.Holdings.{holding_of_offer, parts_on}
use Rattle.drf_rows.specs.declared.rows.OfferRow.{OfferRow}
use Rattle.drf_holdings.specs.Listed.{offer_number, offer_on, bundles_at}
use Rattle.drf_holdings.specs.Rising.{IsRising}
use Rattle.drf_holdings.proofs.Parts.{parts_listed}
use Rattle.drf_holdings.proofs.offers.OfferTable.left_of.Goals as goal

pub returns-in-Some : goal.returns-in-Some
returns-in-Some c =
    let rows = c.args.self.now in
    let agent = c.args.agent.now in
    let numbers = c.in-Some.numbers.now.items in
    let listed = c.in-Some.ensures ∙ c.self.invariant.listed.agents agent
    ∙ ap (λ (os : List OfferRow). map offer_number (filter (offer_on agent) os)) c.self.view_is in
    let rising : IsRising (map offer_number rows) = subst (λ (os : List OfferRow). IsRising (map offer_number os)) c.self.view_is c.self.invariant.rising in
    let parts : flat_map (bundles_at offer_number (λ o. o.bundle) rows) numbers ≡ parts_on agent (map holding_of_offer rows) =
    parts_listed offer_number (λ o. o.bundle) holding_of_offer agent (λ o. refl) rows numbers rising listed in
    subst (λ (w : List Resource). IfOk c.less.result (λ left. left ≡ rest_of_all w (parts_on agent (map holding_of_offer rows)))) c.in_ok-whole.ensures.same
    (subst (λ (ps : List (List Resource)). IfOk c.less.result (λ left. left ≡ rest_of_all c.in_ok-whole.whole ps)) parts c.less.ensures)

pub returns-in-None : goal.returns-in-None
returns-in-None c =
    let rows = c.args.self.now in
    let agent = c.args.agent.now in
    let listed = c.in-None.ensures ∙ c.self.invariant.listed.agents agent
    ∙ ap (λ (os : List OfferRow). map offer_number (filter (offer_on agent) os)) c.self.view_is in
    let rising : IsRising (map offer_number rows) = subst (λ (os : List OfferRow). IsRising (map offer_number os)) c.self.view_is c.self.invariant.rising in
    c.in_ok-whole.ensures.same ∙ ap (rest_of_all c.args.whole.now) (parts_listed offer_number (λ o. o.bundle) holding_of_offer agent (λ o. refl) rows [] rising listed)
