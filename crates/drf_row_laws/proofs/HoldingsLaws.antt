-- What one more holding changes in sums over holdings.
use Rattle.std.specs.Prelude.{◌≡◌, ℕ, ◌+◌, Bool, false, List, [], ◌∷◌, ◌++◌, map, filter, sum_by}
use Rattle.std.specs.List.{AllByRecursion}
use Rattle.std.proofs.Common.{refl, sym, ap, ◌∙◌, inl, inr, cond, arith}
use Rattle.std.proofs.lemmas.Bool.{cases_Bool}
use Rattle.std.proofs.lemmas.List.{map-append}
use Rattle.std.proofs.lemmas.List.Elements.{filter-append}
use Rattle.std.proofs.lemmas.List.Sums.{sum_by-cons, sum_by-append}
use Rattle.drf_role.specs.Text.{Text, same_text}
use Rattle.drf_bundle.specs.Value.{Point}
use Rattle.drf_bundle.specs.Bundle.{Key, IsBundle, units}
use Rattle.drf_bundle.specs.Taken.{units_of_all}
use Rattle.drf_bundle.specs.declared.resource.Resource.{Resource}
use Rattle.drf_rows.specs.Holdings.{Holding, holding_of_offer, holding_of_task, holdings_of, amount_in, held_where, is_on, parts_on, AreBundles}
use Rattle.drf_rows.specs.Cycle.{with_offer}
use Rattle.drf_rows.specs.declared.rows.OfferRow.{OfferRow}
use Rattle.drf_rows.specs.declared.rows.Rows.{Rows}

pub held_where-append : (test : Holding → Bool) (hs gs : List Holding) (label : Text)
    → held_where test (hs ++ gs) label ≡ held_where test hs label + held_where test gs label
held_where-append test hs gs label =
    ap (sum_by (amount_in label)) (filter-append test hs gs) ∙ sum_by-append (amount_in label) (filter test hs) (filter test gs)

pub held_where-cons : (test : Holding → Bool) (h : Holding) (hs : List Holding) (label : Text)
    → held_where test (h ∷ hs) label ≡ cond (test h) (amount_in label h) 0 + held_where test hs label
held_where-cons test h hs label = elim (cases_Bool (test h)) [
  | inl here ↦ rw here (sum_by-cons (amount_in label) h (filter test hs))
  | inr past ↦ rw past (omega arith)
]

-- ---- the bundles that are held on an agent

pub parts_on-append : (agent : Text) (hs gs : List Holding) → parts_on agent (hs ++ gs) ≡ parts_on agent hs ++ parts_on agent gs
parts_on-append agent hs gs =
    ap (map (λ (h : Holding). h.bundle)) (filter-append (is_on agent) hs gs)
    ∙ map-append (λ (h : Holding). h.bundle) (filter (is_on agent) hs) (filter (is_on agent) gs)

parts_on-cons : (agent : Text) (h : Holding) (hs : List Holding)
    → parts_on agent (h ∷ hs) ≡ cond (is_on agent h) (h.bundle ∷ parts_on agent hs) (parts_on agent hs)
parts_on-cons agent h hs = elim (cases_Bool (is_on agent h)) [ inl here ↦ rw here refl | inr past ↦ rw past refl ]

pub each_part : (agent : Text) (hs : List Holding) → AreBundles hs → AllByRecursion IsBundle (parts_on agent hs)
each_part agent [] all = tt
each_part agent (h ∷ hs) all = elim (cases_Bool (is_on agent h)) [
  | inl here ↦ rw here (all.0, each_part agent hs all.1)
  | inr past ↦ rw past (each_part agent hs all.1)
]

-- the units of everything that is held on an agent
abbrev pub units_on : Text → List Holding → Key → Point → ℕ
units_on agent hs key p = units_of_all (parts_on agent hs) key p

module _ (agent : Text) (key : Key) (p : Point) where
  pub units_on-append : (hs gs : List Holding) → units_on agent (hs ++ gs) key p ≡ units_on agent hs key p + units_on agent gs key p
  units_on-append hs gs =
      ap (sum_by (λ part. units part key p)) (parts_on-append agent hs gs)
      ∙ sum_by-append (λ part. units part key p) (parts_on agent hs) (parts_on agent gs)

  pub units_on-cons : (h : Holding) (hs : List Holding)
      → units_on agent (h ∷ hs) key p ≡ cond (is_on agent h) (units h.bundle key p) 0 + units_on agent hs key p
  units_on-cons h hs = elim (cases_Bool (is_on agent h)) [
    | inl here ↦ rw here (sum_by-cons (λ part. units part key p) h.bundle (parts_on agent hs))
    | inr past ↦ rw past (omega arith)
  ]

-- ---- a holding is added

-- the holdings with one more offer
pub holdings_of-with_offer : (rows : Rows) (offer : OfferRow)
    → holdings_of (with_offer rows offer) ≡ map holding_of_offer rows.offers ++ (holding_of_offer offer ∷ map holding_of_task rows.tasks)
unfolding with_offer
holdings_of-with_offer rows offer =
    ap (λ (hs : List Holding). hs ++ map holding_of_task rows.tasks) (map-append holding_of_offer rows.offers (offer ∷ []))
    ∙ append_one (map holding_of_offer rows.offers) (holding_of_offer offer) (map holding_of_task rows.tasks)
  where
    append_one : (hs : List Holding) (h : Holding) (gs : List Holding) → (hs ++ h ∷ []) ++ gs ≡ hs ++ (h ∷ gs)
    append_one [] h gs = refl
    append_one (x ∷ hs) h gs = ap (λ (zs : List Holding). x ∷ zs) (append_one hs h gs)

-- an offer adds what it has if it passes the test
pub held_where-with_offer : (test : Holding → Bool) (rows : Rows) (offer : OfferRow) (label : Text)
    → held_where test (holdings_of (with_offer rows offer)) label
    ≡ held_where test (holdings_of rows) label + cond (test (holding_of_offer offer)) (amount_in label (holding_of_offer offer)) 0
held_where-with_offer test rows offer label =
    let before : List Holding = map holding_of_offer rows.offers in
    let after : List Holding = map holding_of_task rows.tasks in
    ap (λ (hs : List Holding). held_where test hs label) (holdings_of-with_offer rows offer)
    ∙ held_where-append test before (holding_of_offer offer ∷ after) label
    ∙ omega (arith, held_where-cons test (holding_of_offer offer) after label, held_where-append test before after label)

-- on its own agent, the offer is one of the bundles that are held there
pub parts_on-with_offer : (rows : Rows) (offer : OfferRow) (agent : Text)
    → parts_on agent (holdings_of (with_offer rows offer))
    ≡ parts_on agent (map holding_of_offer rows.offers)
    ++ cond (same_text offer.agent agent) (offer.bundle ∷ parts_on agent (map holding_of_task rows.tasks)) (parts_on agent (map holding_of_task rows.tasks))
parts_on-with_offer rows offer agent =
    ap (parts_on agent) (holdings_of-with_offer rows offer)
    ∙ parts_on-append agent (map holding_of_offer rows.offers) (holding_of_offer offer ∷ map holding_of_task rows.tasks)
    ∙ ap (λ (parts : List (List Resource)). parts_on agent (map holding_of_offer rows.offers) ++ parts) (parts_on-cons agent (holding_of_offer offer) (map holding_of_task rows.tasks))

-- on other agents nothing changes
pub parts_on-other : (rows : Rows) (offer : OfferRow) (agent : Text) → same_text offer.agent agent ≡ false
    → parts_on agent (holdings_of (with_offer rows offer)) ≡ parts_on agent (holdings_of rows)
parts_on-other rows offer agent past =
    let before : List (List Resource) = parts_on agent (map holding_of_offer rows.offers) in
    let after : List (List Resource) = parts_on agent (map holding_of_task rows.tasks) in
    parts_on-with_offer rows offer agent ∙ ap (λ (b : Bool). before ++ cond b (offer.bundle ∷ after) after) past
    ∙ sym (parts_on-append agent (map holding_of_offer rows.offers) (map holding_of_task rows.tasks))

-- if all holdings and the new one have a property, so have all afterwards
each-insert : (P : Holding → Type 0) (hs gs : List Holding) (h : Holding)
    → AllByRecursion P (hs ++ gs) → P h → AllByRecursion P (hs ++ (h ∷ gs))
each-insert P [] gs h all here = (here, all)
each-insert P (x ∷ hs) gs h all here = (all.0, each-insert P hs gs h all.1 here)

pub each-with_offer : (P : Holding → Type 0) (rows : Rows) (offer : OfferRow)
    → AllByRecursion P (holdings_of rows) → P (holding_of_offer offer) → AllByRecursion P (holdings_of (with_offer rows offer))
each-with_offer P rows offer all here =
    rw (holdings_of-with_offer rows offer) (each-insert P (map holding_of_offer rows.offers) (map holding_of_task rows.tasks) (holding_of_offer offer) all here)
