-- A consistent state is consistent after an `Release`.
use Rattle.std.proofs.Common.{◌≡◌, ℕ, ◌≤◌, Bool, true, not, ◌&&◌, List, [], ◌∷◌, map, refl, subst, inl, inr, arith, nat_lt}
use Rattle.std.specs.Prelude.{filter}
use Rattle.std.specs.List.{list_all, AllByRecursion}
use Rattle.std.proofs.lemmas.Bool.{cases_Bool, and_parts, and_from}
use Rattle.drf_role.specs.Text.{Text, same_text}
use Rattle.drf_bundle.specs.Bundle.{Key}
use Rattle.drf_bundle.specs.Value.{Point}
use Rattle.drf_rows.specs.Consistent.{IsHeld, IsCovered, IsConsistent, are_distinct_tasks, are_rising}
use Rattle.drf_rows.specs.Releases.{Release, ends_offer, ends_task, is_task, without_ended, all_on, all_of}
use Rattle.drf_rows.specs.Holdings.{Holding, holdings_of, holding_of_offer, holding_of_task}
use Rattle.drf_rows.specs.Members.{agent_removed, framework_removed}
use Rattle.drf_rows.specs.Filters.{filters_without_agent, filters_without_framework}
use Rattle.drf_row_laws.proofs.ReleaseLaws.{IsConsistent-held}
use Rattle.drf_row_laws.proofs.HoldingsLaws.{units_on, units_on-append, units_on-cons}
use Rattle.drf_bundle.proofs.ListLaws.{each_append, each_filter, each_from, each_map, each_parts, filter-again}
use Rattle.drf_row_laws.proofs.MemberLaws.{IsConsistent-agent_removed, IsConsistent-framework_removed}
use Rattle.drf_rows.specs.declared.rows.AgentRow.{AgentRow}
use Rattle.drf_rows.specs.declared.rows.FrameworkRow.{FrameworkRow}
use Rattle.drf_rows.specs.declared.rows.OfferRow.{OfferRow}
use Rattle.drf_rows.specs.declared.rows.TaskRow.{TaskRow}
use Rattle.drf_rows.specs.declared.rows.Rows.{Rows}

-- ---- lists with some of their elements kept

pub all_kept : {X : Type 0} (p q : X → Bool) (xs : List X) → list_all p xs ≡ true → list_all p (filter q xs) ≡ true
all_kept p q [] all = refl
all_kept p q (x ∷ xs) all =
    let parts = and_parts (p x) (list_all p xs) all in
    elim (cases_Bool (q x)) [
      | inl stays ↦ rw stays (and_from (p x) (list_all p (filter q xs)) parts.0 (all_kept p q xs parts.1))
      | inr goes ↦ rw goes (all_kept p q xs parts.1)
    ]

tasks_kept : (q : TaskRow → Bool) (ts : List TaskRow) → are_distinct_tasks ts ≡ true → are_distinct_tasks (filter q ts) ≡ true
tasks_kept q [] apart = refl
tasks_kept q (t ∷ ts) apart =
    let is_other : TaskRow → Bool = λ u. not (is_task t.framework t.name u) in
    let parts = and_parts (list_all is_other ts) (are_distinct_tasks ts) apart in
    elim (cases_Bool (q t)) [
      | inl stays ↦
          rw stays (and_from (list_all is_other (filter q ts)) (are_distinct_tasks (filter q ts))
          (all_kept is_other q ts parts.0) (tasks_kept q ts parts.1))
      | inr goes ↦ rw goes (tasks_kept q ts parts.1)
    ]

above_kept : (n : ℕ) (p : OfferRow → Bool) (os : List OfferRow)
    → list_all (nat_lt n) (map (λ o. o.number) os) ≡ true → list_all (nat_lt n) (map (λ o. o.number) (filter p os)) ≡ true
above_kept n p [] all = refl
above_kept n p (o ∷ os) all =
    let parts = and_parts (nat_lt n o.number) (list_all (nat_lt n) (map (λ o. o.number) os)) all in
    elim (cases_Bool (p o)) [
      | inl stays ↦
          rw stays (and_from (nat_lt n o.number) (list_all (nat_lt n) (map (λ o. o.number) (filter p os))) parts.0 (above_kept n p os parts.1))
      | inr goes ↦ rw goes (above_kept n p os parts.1)
    ]

rising_kept : (p : OfferRow → Bool) (os : List OfferRow) (next : ℕ)
    → are_rising (map (λ o. o.number) os) next ≡ true → are_rising (map (λ o. o.number) (filter p os)) next ≡ true
rising_kept p [] next rising = refl
rising_kept p (o ∷ os) next rising =
    let numbers : List OfferRow → List ℕ = λ os. map (λ o. o.number) os in
    let below : Bool = nat_lt o.number next in
    let parts = and_parts (below && list_all (nat_lt o.number) (numbers os)) (are_rising (numbers os) next) rising in
    let here = and_parts below (list_all (nat_lt o.number) (numbers os)) parts.0 in
    elim (cases_Bool (p o)) [
      | inl stays ↦
          rw stays (and_from (below && list_all (nat_lt o.number) (numbers (filter p os))) (are_rising (numbers (filter p os)) next)
          (and_from below (list_all (nat_lt o.number) (numbers (filter p os))) here.0 (above_kept o.number p os here.1))
          (rising_kept p os next parts.1))
      | inr goes ↦ rw goes (rising_kept p os next parts.1)
    ]

each_of : {X Y : Type 0} (P : Y → Type 0) (g : X → Y) (xs : List X) → AllByRecursion P (map g xs) → AllByRecursion (λ x. P (g x)) xs
each_of P g [] all = tt
each_of P g (x ∷ xs) all = (all.0, each_of P g xs all.1)

each_kept_of : {X : Type 0} (P : Holding → Type 0) (g : X → Holding) (p : X → Bool) (xs : List X)
    → AllByRecursion P (map g xs) → AllByRecursion P (map g (filter p xs))
each_kept_of P g p xs all = each_map P g (filter p xs) (each_filter (λ x. P (g x)) p xs (each_of P g xs all))

-- at most as much is held on an agent as before
units_kept : {X : Type 0} (agent : Text) (key : Key) (point : Point) (g : X → Holding) (p : X → Bool) (xs : List X)
    → units_on agent (map g (filter p xs)) key point ≤ units_on agent (map g xs) key point
units_kept agent key point g p [] = omega arith
units_kept agent key point g p (x ∷ xs) =
    let more = units_on-cons agent key point (g x) (map g xs) in
    elim (cases_Bool (p x)) [
      | inl stays ↦ rw stays (omega (arith, more, units_on-cons agent key point (g x) (map g (filter p xs)), units_kept agent key point g p xs))
      | inr goes ↦ rw goes (omega (arith, more, units_kept agent key point g p xs))
    ]

-- ---- release of resources

module _ (rows : Rows) (release : Release) where
  abbrev offers_left : List OfferRow
  offers_left = filter (λ o. not (ends_offer release o)) rows.offers

  abbrev tasks_left : List TaskRow
  tasks_left = filter (λ t. not (ends_task release t)) rows.tasks

  each_left : (P : Holding → Type 0) → AllByRecursion P (holdings_of rows) → AllByRecursion P (holdings_of (without_ended rows release))
  each_left P all =
      let parts = each_parts P (map holding_of_offer rows.offers) (map holding_of_task rows.tasks) all in
      each_append P (map holding_of_offer offers_left) (map holding_of_task tasks_left)
      (each_kept_of P holding_of_offer (λ o. not (ends_offer release o)) rows.offers parts.0)
      (each_kept_of P holding_of_task (λ t. not (ends_task release t)) rows.tasks parts.1)

  covered_left : (a : AgentRow) → IsCovered (holdings_of rows) a → IsCovered (holdings_of (without_ended rows release)) a
  covered_left a covered key point =
      omega (
        arith,
        covered key point,
        units_on-append a.name key point (map holding_of_offer rows.offers) (map holding_of_task rows.tasks),
        units_on-append a.name key point (map holding_of_offer offers_left) (map holding_of_task tasks_left),
        units_kept a.name key point holding_of_offer (λ o. not (ends_offer release o)) rows.offers,
        units_kept a.name key point holding_of_task (λ t. not (ends_task release t)) rows.tasks,
      )

  pub IsConsistent-ended : IsConsistent rows → IsConsistent (without_ended rows release)
  IsConsistent-ended consistent =
      IsConsistent-held rows offers_left tasks_left consistent
      (each_left (IsHeld rows.agents rows.frameworks) consistent.holdings)
      (each_from (IsCovered (holdings_of rows)) (IsCovered (holdings_of (without_ended rows release))) rows.agents covered_left consistent.covered)
      (tasks_kept (λ t. not (ends_task release t)) rows.tasks consistent.tasks)
      (rising_kept (λ o. not (ends_offer release o)) rows.offers rows.next_offer consistent.numbered)

  -- a second time the same ending ends nothing
  pub ended_twice : without_ended (without_ended rows release) release ≡ without_ended rows release
  ended_twice = λ i. record rows {
    offers = filter-again (λ o. not (ends_offer release o)) rows.offers i;
    tasks = filter-again (λ t. not (ends_task release t)) rows.tasks i;
  }

-- ---- removed agents and frameworks

pub IsConsistent-agent_left : (rows : Rows) (name : Text) → IsConsistent rows → IsConsistent (agent_removed rows name)
IsConsistent-agent_left rows name consistent =
    let left : Rows = without_ended rows (all_on name) in
    let nothing = ended_twice rows (all_on name) in
    let same : agent_removed left name ≡ agent_removed rows name = λ i. record (nothing i) {
      agents = filter (λ (a : AgentRow). not (same_text a.name name)) rows.agents;
      filters = filters_without_agent name rows.filters;
    } in
    subst IsConsistent same (IsConsistent-agent_removed left name nothing (IsConsistent-ended rows (all_on name) consistent))

pub IsConsistent-framework_left : (rows : Rows) (name : Text) → IsConsistent rows → IsConsistent (framework_removed rows name)
IsConsistent-framework_left rows name consistent =
    let left : Rows = without_ended rows (all_of name) in
    let nothing = ended_twice rows (all_of name) in
    let same : framework_removed left name ≡ framework_removed rows name = λ i. record (nothing i) {
      frameworks = filter (λ (f : FrameworkRow). not (same_text f.name name)) rows.frameworks;
      filters = filters_without_framework name rows.filters;
    } in
    subst IsConsistent same (IsConsistent-framework_removed left name nothing (IsConsistent-ended rows (all_of name) consistent))
