-- The order of a turn: each client comes before all later ones, and each offer goes to the first client that would be
-- granted something.
use Rattle.std.specs.Prelude.{◌≡◌, ℕ, zero, suc, Bool, true, false, ◌||◌, List, [], ◌∷◌, ◌++◌, length, find, drop, Option, Some, None}
use Rattle.std.specs.List.{AllByRecursion, list_all}
use Rattle.std.specs.Option.{option_map_or}
use Rattle.std.proofs.Common.{refl, sym, ap, subst, ◌∙◌, inl, inr, cond, append-nil, append_assoc}
use Rattle.std.proofs.Math.Seq.{drop-append_seam}
use Rattle.std.proofs.lemmas.Bool.{cases_Bool, and_parts, true≢false}
use Rattle.drf_bundle.specs.Bundle.{IsBundle}
use Rattle.drf_bundle.specs.declared.resource.Resource.{Resource}
use Rattle.drf_role.specs.Path.{same_path}
use Rattle.drf_rows.specs.Client.{Client, path_of}
use Rattle.drf_rows.specs.Consistent.{IsConsistent}
use Rattle.drf_rows.specs.Cycle.{grant, new_offer, with_offer, tried, all_tried, first_of, without, serving_order, turn_order, turn}
use Rattle.drf_rows.specs.Held.{active_clients}
use Rattle.drf_rows.specs.Held as rows_word
use Rattle.drf_rows.specs.Share.{Standing, stands_before}
use Rattle.drf_row_laws.proofs.CycleLaws.{all_tried-append}
use Rattle.drf_bundle.proofs.ListLaws.{each_append, each_from}
use Rattle.drf_laws.proofs.OfferedLaws.{each_served}
use Rattle.drf_row_laws.proofs.ServingOrder.{stands_before_itself, stands_before-back}
use Rattle.drf_rows.specs.declared.rows.AgentRow.{AgentRow}
use Rattle.drf_rows.specs.declared.rows.OfferRow.{OfferRow}
use Rattle.drf_rows.specs.declared.rows.Rows.{Rows}
use Rattle.drf_promises.specs.Cycles.{GetsNothing, GoesToTheFirst, OffersGoToTheFirst}
use Rattle.drf_promises.proofs.theorems.Cycles.{everybody, nobody_is_passed}

-- ---- clients in order

abbrev pub Before : Standing → Client → Client → Type 0
Before s c d = stands_before s (path_of c) (path_of d) ≡ true

abbrev pub InOrder : Standing → List Client → Type 0
InOrder s [] = Unit {0}
InOrder s (c ∷ cs) = AllByRecursion (Before s c) cs × InOrder s cs

passes : (t : Client → Bool) (cs : List Client) (c : Client) → find t cs ≡ Some c → t c ≡ true
passes t [] c found = cc
passes t (d ∷ ds) c found = by (t d) refl found (passes t ds c)
  where
    by : (b : Bool) → t d ≡ b → cond b (Some d) (find t ds) ≡ Some c → (find t ds ≡ Some c → t c ≡ true) → t c ≡ true
    by true here is later =
        let same : d ≡ c = cc in
        subst (λ (x : Client). t x ≡ true) same here
    by false past is later = later is

-- the first client comes before all others
before_others : (s : Standing) (c : Client) (ds : List Client)
    → list_all (λ d. same_path (path_of c) (path_of d) || stands_before s (path_of c) (path_of d)) ds ≡ true → AllByRecursion (Before s c) (without c ds)
before_others s c [] first = tt
before_others s c (d ∷ ds) first =
    let parts = and_parts (same_path (path_of c) (path_of d) || stands_before s (path_of c) (path_of d)) _ first in
    let later = before_others s c ds parts.1 in
    elim (cases_Bool (same_path (path_of c) (path_of d))) [
      | inl same ↦ rw same later
      | inr other ↦
          let here : stands_before s (path_of c) (path_of d) ≡ true = sym (ap (λ b. b || stands_before s (path_of c) (path_of d)) other) ∙ parts.0 in
          rw other (here, later)
    ]

pub served_in_order : (s : Standing) (n : ℕ) (clients : List Client) → InOrder s (serving_order s n clients)
served_in_order s zero clients = tt
served_in_order s (suc n) clients = by (first_of s clients) refl (λ c. served_in_order s n (without c clients))
  where
    by : (found : Option Client) → first_of s clients ≡ found → ((c : Client) → InOrder s (serving_order s n (without c clients)))
        → InOrder s (option_map_or (λ c. c ∷ serving_order s n (without c clients)) found [])
    by None none later = tt
    by (Some c) found later =
        (each_served (Before s c) s n (without c clients) (before_others s c clients (passes _ clients c found)), later c)

pub before_later : (s : Standing) (earlier later : List Client) (c : Client) → InOrder s (earlier ++ c ∷ later) → AllByRecursion (Before s c) later
before_later s [] later c order = order.0
before_later s (d ∷ ds) later c order = before_later s ds later c order.1

-- ---- the offers of a turn

module _ (rows : Rows) (agent : AgentRow) (consistent : IsConsistent rows) (total : IsBundle agent.total) where
  abbrev s : Standing
  s = rows_word.standing_of rows

  -- a client that comes before one that is tried was tried before it
  nobody_ahead : (earlier later : List Client) (c : Client) → turn_order rows ≡ earlier ++ c ∷ later
      → AllByRecursion (λ d. Before s d c → GetsNothing (all_tried rows agent earlier) agent d) (active_clients rows)
  nobody_ahead earlier later c order =
      let Enough : Client → Type 0 = λ d. Before s d c → GetsNothing (all_tried rows agent earlier) agent d in
      let tried = each_from (GetsNothing (all_tried rows agent earlier) agent) Enough earlier (λ d none ahead. none)
      (nobody_is_passed rows agent earlier later c consistent total order) in
      let itself : Enough c = λ ahead. absurd (true≢false (sym ahead ∙ stands_before_itself s (path_of c))) in
      let behind = each_from (Before s c) Enough later
      (λ d before ahead. absurd (true≢false (sym ahead ∙ stands_before-back s (path_of c) (path_of d) before)))
      (before_later s earlier later c (subst (InOrder s) order (served_in_order s (length (active_clients rows)) (active_clients rows)))) in
      everybody Enough rows consistent (subst (AllByRecursion Enough) (sym order) (each_append Enough earlier (c ∷ later) tried (itself, behind)))

  -- the offers that are made between two states
  record Offers (before after : Rows) : Type 0 where
    made : List OfferRow
    offers : after.offers ≡ before.offers ++ made
    first : AllByRecursion (GoesToTheFirst rows agent) made

  abbrev after_grant : Rows → Client → Option (List Resource) → Rows
  after_grant mid c granted = option_map_or (λ bundle. with_offer mid (new_offer mid agent c bundle)) granted mid

  offers-from : (mid : Rows) (earlier later : List Client) → all_tried rows agent earlier ≡ mid → turn_order rows ≡ earlier ++ later
      → Offers mid (all_tried mid agent later)
  unfolding with_offer
  offers-from mid earlier [] here order = record { made = []; offers = sym (append-nil mid.offers); first = tt }
  offers-from mid earlier (c ∷ later) here order = by (grant mid agent c) refl
      (offers-from (tried mid agent c) (earlier ++ c ∷ []) later
      (all_tried-append rows agent earlier (c ∷ []) ∙ ap (λ (r : Rows). tried r agent c) here)
      (order ∙ sym (append_assoc earlier (c ∷ []) later)))
    where
      by : (granted : Option (List Resource)) → grant mid agent c ≡ granted
          → Offers (after_grant mid c granted) (all_tried (after_grant mid c granted) agent later)
          → Offers mid (all_tried (after_grant mid c granted) agent later)
      by None none rest = rest
      by (Some bundle) some rest =
          let offer : OfferRow = new_offer mid agent c bundle in
          record {
            made = offer ∷ rest.made;
            offers = rest.offers ∙ append_assoc mid.offers (offer ∷ []) rest.made;
            first = (
              record {
                earlier = earlier;
                later = later;
                order = order;
                granted = ap (λ (r : Rows). grant r agent c) here ∙ some;
                nobody_ahead = nobody_ahead earlier later c order;
              },
              rest.first,
            );
          }

pub offers_go_to_the_first : OffersGoToTheFirst
unfolding turn
offers_go_to_the_first rows agent consistent total =
    let all = offers-from rows agent consistent total rows [] (turn_order rows) refl refl in
    subst (AllByRecursion (GoesToTheFirst rows agent)) (sym (ap (drop (length rows.offers)) all.offers ∙ drop-append_seam rows.offers all.made)) all.first
