-- Lemmas on rows to which offers are added, table by table.
use Rattle.std.specs.Prelude.{◌≡◌, ◌+◌, List, [], ◌∷◌, ◌++◌, length}
use Rattle.std.proofs.Common.{sym, ap, ◌∙◌, arith}
use Rattle.std.proofs.lemmas.List.{append-nil, append_assoc}
use Rattle.drf_rows.specs.Cycle.{with_offer}
use Rattle.drf_rows.specs.declared.rows.OfferRow.{OfferRow}
use Rattle.drf_rows.specs.declared.rows.Rows.{Rows}
use Rattle.drf_tables.specs.cycle.Counting.{counting, counting_all}
use Rattle.drf_tables.specs.cycle.Drafts.{with_offers}

-- the rows after offers are added, table by table
abbrev pub offers_added : Rows → List OfferRow → Rows
offers_added rows offers = record rows {
  frameworks = counting_all rows.frameworks offers;
  offers = rows.offers ++ offers;
  next_offer = rows.next_offer + length offers;
}

offers_added-one : (rows : Rows) (o : OfferRow) (os : List OfferRow)
    → offers_added (with_offer rows o) os ≡ offers_added rows (o ∷ os)
unfolding with_offer
offers_added-one rows o os =
    let number : rows.next_offer + 1 + length os ≡ rows.next_offer + length (o ∷ os) = omega arith in
    λ i. record rows {
      frameworks = counting_all (counting rows.frameworks o) os;
      offers = append_assoc rows.offers (o ∷ []) os i;
      next_offer = number i;
    }

pub with_offers-added : (rows : Rows) (offers : List OfferRow) → with_offers rows offers ≡ offers_added rows offers
with_offers-added rows [] =
    let none : rows.next_offer ≡ rows.next_offer + 0 = omega arith in
    λ i. record rows { offers = sym (append-nil rows.offers) i; next_offer = none i }
with_offers-added rows (o ∷ os) = with_offers-added (with_offer rows o) os ∙ offers_added-one rows o os

-- the next offer number grows by the number of offers
pub next-with_offers : (rows : Rows) (offers : List OfferRow)
    → (with_offers rows offers).next_offer ≡ rows.next_offer + length offers
next-with_offers rows offers = ap (λ (rs : Rows). rs.next_offer) (with_offers-added rows offers)

-- the offers are added last
pub offers-with_offers : (rows : Rows) (offers : List OfferRow) → (with_offers rows offers).offers ≡ rows.offers ++ offers
offers-with_offers rows offers = ap (λ (rs : Rows). rs.offers) (with_offers-added rows offers)

pub agents-with_offers : (rows : Rows) (offers : List OfferRow) → (with_offers rows offers).agents ≡ rows.agents
agents-with_offers rows offers = ap (λ (rs : Rows). rs.agents) (with_offers-added rows offers)
