-- Offers that are accepted or declined, tasks that finish, and filters that are removed.
use Rattle.std.specs.Prelude.{◌≡◌, ℕ, ◌+◌, ◌-◌, ◌≤◌, ◌==◌, Bool, true, false, not, ◌&&◌, List, [], ◌∷◌, ◌++◌, length, map, filter, drop, slice_get, Some, Option, max}
use Rattle.std.specs.List.{list_all, AllByRecursion}
use Rattle.std.specs.Option.{option_map_or}
use Rattle.std.proofs.Common.{refl, sym, ap, subst, ◌∙◌, cond, arith}
use Rattle.std.proofs.lemmas.Bool.{and_parts, and_from, eqb-true}
use Rattle.std.proofs.lemmas.Bool.Decides.{nat_tests}
use Rattle.std.proofs.lemmas.List.{map-append, append-nil}
use Rattle.std.proofs.Math.Seq.{drop-append_seam}
use Rattle.drf_role.specs.Text.{Text, same_text}
use Rattle.drf_role.specs.TextLaws.{same_itself}
use Rattle.drf_role.specs.PathLaws.{same_path_itself}
use Rattle.drf_bundle.specs.declared.resource.Resource.{Resource}
use Rattle.drf_bundle.specs.Value.{Point}
use Rattle.drf_bundle.specs.Bundle.{Key, IsBundle, units, join}
use Rattle.drf_bundle.specs.laws.BundleLaws.{known_by_units}
use Rattle.drf_bundle.proofs.theorems.UnitProofs.{join_by_units}
use Rattle.drf_rows.specs.Filters.{is_of_client, is_on_agent}
use Rattle.drf_rows.specs.Holdings.{Holding, holding_of_offer, holding_of_task, holdings_of, AreBundles}
use Rattle.drf_row_laws.proofs.HoldingsLaws.{units_on, units_on-append, units_on-cons}
use Rattle.drf_rows.specs.Cycle.{free_of, new_offer, with_offer, at_timestamp}
use Rattle.drf_row_laws.proofs.CycleLaws.{bundle-free_of, units-free_of}
use Rattle.drf_rows.specs.Releases.{is_task}
use Rattle.drf_row_laws.proofs.ReleaseLaws.{is_task-swap, find-place}
use Rattle.drf_rows.specs.Offers.{task_of, offer_at, left_of_offer, filtered_until, filter_of, filters_rest, filters_with, offer_accepted, offer_declined}
use Rattle.drf_rows.specs.Tasks.{Start}
use Rattle.drf_rows.specs.Consistent.{are_distinct_tasks, IsAgent, IsCovered, IsConsistent}
use Rattle.drf_row_laws.proofs.ConsistentLaws.{numbers_within, bundles-consistent}
use Rattle.drf_bundle.proofs.ListLaws.{none_left, filter_each, find_only, filter_only, each_from, each_at, each_true, each_fails, each_append, each_parts}
use Rattle.drf_rows.specs.Step.{effect}
use Rattle.drf_row_laws.specs.LifeLaws.{DeclinedAtOnceIsUndone, GoesAlone, FinishedIsGivenBack, LeavesItsTasks, AcceptedStartsTasks, FiltersGoWithTheirOwner, OtherFiltersStay}
use Rattle.drf_rows.specs.declared.event.Event.TheVariants.{Finish}
use Rattle.drf_rows.specs.declared.rows.AgentRow.{AgentRow}
use Rattle.drf_rows.specs.declared.rows.FilterRow.{FilterRow}
use Rattle.drf_rows.specs.declared.rows.OfferRow.{OfferRow}
use Rattle.drf_rows.specs.declared.rows.TaskRow.{TaskRow}
use Rattle.drf_rows.specs.declared.rows.Rows.{Rows}

-- ---- an offer is declined at once

-- no offer has the next number yet
none_next : (rows : Rows) → IsConsistent rows → AllByRecursion (λ o. (o.number == rows.next_offer) ≡ false) rows.offers
none_next rows consistent =
    let last : ℕ = rows.next_offer - 1 in
    each_from (λ o. o.number ≤ last) (λ o. (o.number == rows.next_offer) ≡ false) rows.offers other
    (numbers_within rows.offers rows.next_offer last consistent.numbered (omega arith))
  where
    other : (o : OfferRow) → o.number ≤ rows.next_offer - 1 → (o.number == rows.next_offer) ≡ false
    other o within = grind (arith, nat_tests, within, consistent.counted)

pub declined_at_once : DeclinedAtOnceIsUndone
unfolding effect with_offer
declined_at_once rows agent client bundle at consistent =
    let o : OfferRow = new_offer rows agent client bundle in
    let offered : Rows = with_offer rows o in
    let none = none_next rows consistent in
    let is_next : OfferRow → Bool = λ p. p.number == rows.next_offer in
    let itself : is_next o ≡ true = grind (arith, nat_tests) in
    let found : offer_at offered rows.next_offer ≡ Some o = find_only is_next rows.offers [] o none itself in
    let offers : filter (λ p. not (is_next p)) (rows.offers ++ o ∷ []) ≡ rows.offers
    = filter_only is_next rows.offers [] o none itself tt ∙ append-nil rows.offers in
    let tasks : filter (λ t. true) rows.tasks ≡ rows.tasks = filter_each (λ t. true) rows.tasks (each_true rows.tasks) in
    ap (λ (f : Option OfferRow). option_map_or (λ o. offer_declined (at_timestamp offered at) o 0) f offered) found
    ∙ (λ i. record rows {
      frameworks = offered.frameworks;
      offers = offers i;
      tasks = tasks i;
      next_offer = rows.next_offer + 1;
      clock = max rows.clock at;
    })

-- ---- an offer is accepted

-- the old filters, and at most one more
IsAtMostOneMore : OfferRow → List FilterRow → List FilterRow → Type 0
IsAtMostOneMore o old new =
    (new ≡ old ++ drop (length old) new)
    × (length (drop (length old) new) ≤ 1)
    × (list_all (λ f. is_of_client (holding_of_offer o).client f && is_on_agent o.agent f) (drop (length old) new) ≡ true)

more_filters : (o : OfferRow) (old added : List FilterRow) → length added ≤ 1
    → list_all (λ f. is_of_client (holding_of_offer o).client f && is_on_agent o.agent f) added ≡ true
    → IsAtMostOneMore o old (old ++ added)
unfolding IsAtMostOneMore
more_filters o old added few own =
    let seam = drop-append_seam old added in (
      ap (λ (fs : List FilterRow). old ++ fs) (sym seam),
      subst (λ (fs : List FilterRow). length fs ≤ 1) (sym seam) few,
      ap (list_all (λ f. is_of_client (holding_of_offer o).client f && is_on_agent o.agent f)) seam ∙ own,
    )

filters_then : (rows : Rows) (o : OfferRow) (bundle : List Resource) (refuse_ms : ℕ) (refused : Bool)
    → IsAtMostOneMore o rows.filters (filters_with rows refused o bundle refuse_ms)
filters_then rows o bundle refuse_ms true =
    more_filters o rows.filters (filter_of o bundle (filtered_until rows.clock refuse_ms) ∷ []) (omega arith)
    (and_from _ _ (and_from _ _ (and_from _ _ (same_path_itself o.role) (same_itself o.framework)) (same_itself o.agent)) refl)
filters_then rows o bundle refuse_ms false =
    subst (IsAtMostOneMore o rows.filters) (append-nil rows.filters) (more_filters o rows.filters [] (omega arith) refl)

pub accepted_starts_tasks : AcceptedStartsTasks
unfolding effect IsAtMostOneMore
accepted_starts_tasks rows a o found =
    subst (LeavesItsTasks rows a o)
    (sym (ap (λ (f : Option OfferRow). option_map_or (λ o. offer_accepted (at_timestamp rows a.at) o a.tasks a.refuse_ms) f rows) found)) (record {
      nothing_else = λ i. record rows {
        offers = filter (λ p. not (p.number == same i)) rows.offers;
        tasks = rows.tasks ++ map (task_of o) a.tasks;
        filters = added.0 i;
        clock = max rows.clock a.at;
      };
      at_most_one_filter = added.1;
      of_the_client_there = added.2;
    })
  where
    starts : List Start
    starts = a.tasks

    same : o.number ≡ a.offer
    same = eqb-true o.number a.offer (find-place (λ (p : OfferRow). p.number == a.offer) rows.offers o found).1

    added : IsAtMostOneMore o rows.filters (filters_with (at_timestamp rows a.at) (filters_rest o starts a.refuse_ms) o (left_of_offer o starts) a.refuse_ms)
    added = filters_then (at_timestamp rows a.at) o (left_of_offer o starts) a.refuse_ms (filters_rest o starts a.refuse_ms)

-- ---- filters are removed

pub filters_go : FiltersGoWithTheirOwner
unfolding effect
filters_go rows agent framework client = record {
  agent_removed = none_left (is_on_agent agent) rows.filters;
  framework_removed = none_left (λ f. same_text f.framework framework) rows.filters;
  client_revived = none_left (is_of_client client) rows.filters;
}

pub other_filters_stay : OtherFiltersStay
unfolding effect
other_filters_stay rows agent framework client = record { agent_removed = refl; framework_removed = refl; client_revived = refl }

-- ---- a task finishes

-- the framework has no other task with that name
others_differ : (before later : List TaskRow) (t : TaskRow) → are_distinct_tasks (before ++ t ∷ later) ≡ true
    → AllByRecursion (λ u. is_task t.framework t.name u ≡ false) before × AllByRecursion (λ u. is_task t.framework t.name u ≡ false) later
others_differ [] later t apart =
    let parts = and_parts (list_all (λ u. not (is_task t.framework t.name u)) later) (are_distinct_tasks later) apart in
    (tt, each_fails (is_task t.framework t.name) later parts.0)
others_differ (u ∷ before) later t apart =
    let tasks : List TaskRow = before ++ t ∷ later in
    let parts = and_parts (list_all (λ v. not (is_task u.framework u.name v)) tasks) (are_distinct_tasks tasks) apart in
    let differ = (each_parts (λ v. is_task u.framework u.name v ≡ false) before (t ∷ later) (each_fails (is_task u.framework u.name) tasks parts.0)).1 in
    let others = others_differ before later t parts.1 in
    ((is_task-swap t u ∙ differ.0, others.0), others.1)

module _ (rows : Rows) (before later : List TaskRow) (t : TaskRow) (consistent : IsConsistent rows) (runs : rows.tasks ≡ before ++ t ∷ later) where
  after : Rows
  after = effect rows (Finish t.framework t.name)

  left : Rows
  left = record rows { tasks = before ++ later }

  only_task : after ≡ left
  unfolding effect after left
  only_task =
      let differ = others_differ before later t (ap are_distinct_tasks (sym runs) ∙ consistent.tasks) in
      let itself : is_task t.framework t.name t ≡ true = and_from _ _ (same_itself t.framework) (same_itself t.name) in
      let ends : TaskRow → Bool = is_task t.framework t.name in
      λ i. record rows {
        offers = filter_each (λ o. true) rows.offers (each_true rows.offers) i;
        tasks = (ap (filter (λ u. not (ends u))) runs ∙ filter_only ends before later t differ.0 itself differ.1) i;
      }

  -- the resources held on an agent is the resources held afterwards and the part of the task
  held_there : (agent : Text) (key : Key) (p : Point)
      → units_on agent (holdings_of rows) key p ≡ cond (same_text t.agent agent) (units t.bundle key p) 0 + units_on agent (holdings_of left) key p
  unfolding left
  held_there agent key p =
      let offers : List Holding = map holding_of_offer rows.offers in
      let first : List Holding = map holding_of_task before in
      let last : List Holding = map holding_of_task later in
      let split : units_on agent (holdings_of rows) key p ≡ units_on agent offers key p + (units_on agent first key p + units_on agent (holding_of_task t ∷ last) key p) =
      units_on-append agent key p offers (map holding_of_task rows.tasks)
      ∙ ap (λ (ts : List TaskRow). units_on agent offers key p + units_on agent (map holding_of_task ts) key p) runs
      ∙ ap (λ (hs : List Holding). units_on agent offers key p + units_on agent hs key p) (map-append holding_of_task before (t ∷ later))
      ∙ ap (λ (n : ℕ). units_on agent offers key p + n) (units_on-append agent key p first (holding_of_task t ∷ last)) in
      let rest : units_on agent (holdings_of left) key p ≡ units_on agent offers key p + (units_on agent first key p + units_on agent last key p) =
      units_on-append agent key p offers (map holding_of_task (before ++ later))
      ∙ ap (λ (hs : List Holding). units_on agent offers key p + units_on agent hs key p) (map-append holding_of_task before later)
      ∙ ap (λ (n : ℕ). units_on agent offers key p + n) (units_on-append agent key p first last) in
      omega (arith, split, rest, units_on-cons agent key p (holding_of_task t) last)

  bundles_left : AreBundles (holdings_of left) × IsBundle t.bundle
  unfolding left
  bundles_left =
      let Good : Holding → Type 0 = λ h. IsBundle h.bundle in
      let all = each_parts Good (map holding_of_offer rows.offers) (map holding_of_task rows.tasks) (bundles-consistent rows consistent) in
      let tasks = each_parts Good (map holding_of_task before) (map holding_of_task (t ∷ later))
      (subst (AllByRecursion Good) (ap (map holding_of_task) runs ∙ map-append holding_of_task before (t ∷ later)) all.1) in
      let others = subst (AllByRecursion Good) (sym (map-append holding_of_task before later)) (each_append Good (map holding_of_task before) (map holding_of_task later) tasks.0 tasks.1.1) in
      (each_append Good (map holding_of_offer rows.offers) (map holding_of_task (before ++ later)) all.0 others, tasks.1.0)

  module _ (agent : AgentRow) (place : ℕ) (at : slice_get rows.agents place ≡ Some agent) where
    total : IsBundle agent.total
    total = (each_at IsAgent rows.agents place agent consistent.agents.each at).total

    -- the free resources afterwards are the free resources before and the part of the task, unit by unit
    free_then : (key : Key) (p : Point)
        → units (free_of left agent) key p ≡ units (free_of rows agent) key p + cond (same_text t.agent agent.name) (units t.bundle key p) 0
    free_then key p = omega (
      arith,
      units-free_of rows agent key p total (bundles-consistent rows consistent),
      units-free_of left agent key p total bundles_left.0,
      held_there agent.name key p,
      (each_at (IsCovered (holdings_of rows)) rows.agents place agent consistent.covered at) key p,
    )

    given_back : same_text t.agent agent.name ≡ true → join (free_of rows agent) t.bundle ≡ Some (free_of left agent)
    given_back here =
        (join_by_units (free_of rows agent) t.bundle (free_of left agent)
        (bundle-free_of rows agent total) bundles_left.1 (bundle-free_of left agent total)).1
        (λ key p. free_then key p ∙ ap (λ (b : Bool). units (free_of rows agent) key p + cond b (units t.bundle key p) 0) here)

    kept_elsewhere : same_text t.agent agent.name ≡ false → free_of left agent ≡ free_of rows agent
    kept_elsewhere past =
        known_by_units (free_of left agent) (free_of rows agent) (bundle-free_of left agent total) (bundle-free_of rows agent total)
        (λ key p. free_then key p
        ∙ ap (λ (b : Bool). units (free_of rows agent) key p + cond b (units t.bundle key p) 0) past
        ∙ omega arith)

    finished : GoesAlone rows before later t agent after
    unfolding left
    finished =
        subst (GoesAlone rows before later t agent) (sym only_task)
        (record { only_task = refl; given_back = given_back; kept_elsewhere = kept_elsewhere })

pub finished_is_given_back : FinishedIsGivenBack
unfolding after left
finished_is_given_back rows before later t agent place consistent runs at = finished rows before later t consistent runs agent place at
