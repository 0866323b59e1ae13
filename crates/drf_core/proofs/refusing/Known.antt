-- A framework that holds something is registered.
use Rattle.std.proofs.Common.{◌≡◌, ℕ, true, false, List, [], ◌∷◌, Option, Some, None, refl, sym, ap, ◌∙◌, inl, inr, map}
use Rattle.std.specs.List.{list_any, AllByRecursion}
use Rattle.std.specs.Option.{option_map_or}
use Rattle.std.proofs.lemmas.Bool.{cases_Bool, false≢true, and_parts}
use Rattle.drf_role.specs.Text.{Text, same_text}
use Rattle.drf_role.specs.TextLaws.{same_from_test}
use Rattle.drf_bundle.proofs.ListLaws.{each_parts}
use Rattle.drf_rows.specs.Consistent.{IsConsistent, IsHeld}
use Rattle.drf_rows.specs.Releases.{is_task}
use Rattle.drf_rows.specs.Holdings.{Holding, holding_of_offer, holding_of_task}
use Rattle.drf_rows.specs.Members.{has_framework}
use Rattle.drf_rows.specs.Offers.{has_task, offer_at}
use Rattle.drf_rows.specs.declared.rows.OfferRow.{OfferRow}
use Rattle.drf_rows.specs.declared.rows.Rows.{Rows}
use Rattle.drf_rows.specs.declared.rows.TaskRow.{TaskRow}
use Rattle.drf_row_laws.proofs.ReleaseLaws.{held-offer_at}
use Rattle.drf_laws.proofs.theorems.Clients.{unregistered}

known_holder : (rows : Rows) (h : Holding) → IsHeld rows.agents rows.frameworks h → has_framework rows h.client.framework ≡ true
known_holder rows h held = elim (cases_Bool (has_framework rows h.client.framework)) [
  | inl known ↦ known
  | inr new ↦ absurd (false≢true (sym (unregistered rows.frameworks h.client new) ∙ held.client))
]

pub known_offer : (rows : Rows) (number : ℕ) (framework : Text) → IsConsistent rows
    → option_map_or (λ o. same_text o.framework framework) (offer_at rows number) false ≡ true → has_framework rows framework ≡ true
known_offer rows number framework consistent its = by (offer_at rows number) refl its
  where
    by : (found : Option OfferRow) → offer_at rows number ≡ found → option_map_or (λ o. same_text o.framework framework) found false ≡ true
        → has_framework rows framework ≡ true
    by (Some o) at its =
        sym (ap (has_framework rows) (same_from_test o.framework framework its))
        ∙ known_holder rows (holding_of_offer o) (held-offer_at rows number o consistent at)
    by None at its = cc

pub known_task : (rows : Rows) (framework name : Text) → IsConsistent rows → has_task rows framework name ≡ true
    → has_framework rows framework ≡ true
known_task rows framework name consistent has =
    by rows.tasks (each_parts (IsHeld rows.agents rows.frameworks) (map holding_of_offer rows.offers) (map holding_of_task rows.tasks) consistent.holdings).1 has
  where
    by : (ts : List TaskRow) → AllByRecursion (IsHeld rows.agents rows.frameworks) (map holding_of_task ts) → list_any (is_task framework name) ts ≡ true
        → has_framework rows framework ≡ true
    by [] held has = cc
    by (t ∷ ts) held has = elim (cases_Bool (is_task framework name t)) [
      | inl its ↦
          let named = (and_parts (same_text t.framework framework) (same_text t.name name) its).0 in
          sym (ap (has_framework rows) (same_from_test t.framework framework named)) ∙ known_holder rows (holding_of_task t) held.0
      | inr other ↦ by ts held.1 (rw other at has)
    ]
