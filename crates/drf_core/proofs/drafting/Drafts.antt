-- How one more draft changes a running cycle.
use Rattle.std.proofs.Common.{◌≡◌, true, List, [], ◌∷◌, ◌++◌, refl, ap, subst, ◌∙◌}
use Rattle.std.specs.List.{AllByRecursion}
use Rattle.std.proofs.lemmas.Grind.{fold-append}
use Rattle.drf_role.specs.Path.{Path}
use Rattle.drf_bundle.specs.Bundle.{quantities_of}
use Rattle.drf_rows.specs.Client.{Client, path_of}
use Rattle.drf_rows.specs.Holdings.{holding_of_offer}
use Rattle.drf_rows.specs.Cycle.{with_offer}
use Rattle.drf_rows.specs.Held.{is_registered}
use Rattle.drf_row_laws.proofs.ConsistentLaws.{is_registered-counted}
use Rattle.drf_rows.specs.declared.rows.OfferRow.{OfferRow}
use Rattle.drf_rows.specs.declared.rows.Rows.{Rows}
use Rattle.drf_sorter.specs.Content.{Content, IsSame, with_change, charged, discharged, has_client, HasChargeAt}
use Rattle.drf_sorter.proofs.theorems.SameLaws.{HasChargeAt-same, IsSame-between, IsSame-sym, IsSame-with_change, has_client-same}
use Rattle.drf_tables.specs.cycle.Drafts.{with_offers}
use Rattle.drf_content.specs.Content.{content_of}
use Rattle.drf_content.proofs.theorems.Offer.{content_of-with_offer, discharged-with_change, HasChargeAt-charged}
use Rattle.drf_content.proofs.theorems.Members.{has_client-registered}

-- ---- what offers do not change

pub with_offers-push : (rows : Rows) (offers : List OfferRow) (offer : OfferRow)
    → with_offers rows (offers ++ offer ∷ []) ≡ with_offer (with_offers rows offers) offer
with_offers-push rows offers offer = fold-append with_offer rows offers (offer ∷ [])

pub is_registered-with_offer : (rows : Rows) (offer : OfferRow) (client : Client)
    → is_registered (with_offer rows offer).frameworks client ≡ is_registered rows.frameworks client
unfolding with_offer
is_registered-with_offer rows offer client = is_registered-counted (holding_of_offer offer).client client rows.frameworks

pub is_registered-with_offers : (rows : Rows) (offers : List OfferRow) (client : Client)
    → is_registered (with_offers rows offers).frameworks client ≡ is_registered rows.frameworks client
is_registered-with_offers rows [] client = refl
is_registered-with_offers rows (o ∷ os) client = is_registered-with_offers (with_offer rows o) os client ∙ is_registered-with_offer rows o client

-- ---- the last draft is undone

module _ (content : Content) (rows : Rows) (offers drafts : List OfferRow) (offer : OfferRow) (is : offers ≡ drafts ++ offer ∷ [])
    (sorted : IsSame content (content_of (with_offers rows offers)))
    (clients : AllByRecursion (λ o. is_registered rows.frameworks (holding_of_offer o).client ≡ true) offers) where
  sorted_last : IsSame content (content_of (with_offer (with_offers rows drafts) offer))
  sorted_last =
      subst (IsSame content)
      (ap (λ (os : List OfferRow). content_of (with_offers rows os)) is ∙ ap content_of (with_offers-push rows drafts offer)) sorted

  charged_last : IsSame content (with_change (content_of (with_offers rows drafts)) (path_of (holding_of_offer offer).client) (charged (quantities_of offer.bundle) 1))
  charged_last = subst (IsSame content) (content_of-with_offer (with_offers rows drafts) offer) sorted_last

  each_prefix : (P : OfferRow → Type 0) (xs : List OfferRow) (x : OfferRow) → AllByRecursion P (xs ++ x ∷ []) → AllByRecursion P xs × P x
  each_prefix P [] x all = (tt, all.0)
  each_prefix P (y ∷ xs) x all = let rest = each_prefix P xs x all.1 in ((all.0, rest.0), rest.1)

  pub clients_prefix : AllByRecursion (λ o. is_registered rows.frameworks (holding_of_offer o).client ≡ true) drafts
      × (is_registered rows.frameworks (holding_of_offer offer).client ≡ true)
  clients_prefix =
      let P : OfferRow → Type 0 = λ o. is_registered rows.frameworks (holding_of_offer o).client ≡ true in
      each_prefix P drafts offer (subst (AllByRecursion P) is clients)

  pub has_client-last : has_client content (path_of (holding_of_offer offer).client) ≡ true
  has_client-last =
      let client : Client = (holding_of_offer offer).client in
      let known = is_registered-with_offer (with_offers rows drafts) offer client ∙ is_registered-with_offers rows drafts client ∙ clients_prefix.1 in
      has_client-same content (content_of (with_offer (with_offers rows drafts) offer)) sorted_last (path_of client) ∙ has_client-registered (with_offer (with_offers rows drafts) offer) client known

  pub HasChargeAt-last : HasChargeAt content (path_of (holding_of_offer offer).client) (quantities_of offer.bundle)
  HasChargeAt-last =
      let path : Path = path_of (holding_of_offer offer).client in
      let reported : Content = with_change (content_of (with_offers rows drafts)) path (charged (quantities_of offer.bundle) 1) in
      HasChargeAt-same reported content (IsSame-sym content reported charged_last) path (quantities_of offer.bundle)
      (HasChargeAt-charged (content_of (with_offers rows drafts)) path (quantities_of offer.bundle))

  pub sorted-taken_back : (after : Content) → after ≡ with_change content (path_of (holding_of_offer offer).client) (discharged (quantities_of offer.bundle))
      → IsSame after (content_of (with_offers rows drafts))
  sorted-taken_back after changed =
      let path : Path = path_of (holding_of_offer offer).client in
      let back = discharged (quantities_of offer.bundle) in
      let reported : Content = with_change (content_of (with_offers rows drafts)) path (charged (quantities_of offer.bundle) 1) in
      IsSame-between after (with_change content path back) (with_change reported path back) (content_of (with_offers rows drafts))
      changed (IsSame-with_change content reported charged_last path back)
      (discharged-with_change (content_of (with_offers rows drafts)) path (quantities_of offer.bundle))
