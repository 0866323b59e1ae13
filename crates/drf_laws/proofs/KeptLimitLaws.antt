-- Lemmas about `specs/KeptLimitLaws.antt`.
use Rattle.std.specs.Prelude.{◌≡◌, ℕ, ◌+◌, ◌≤◌, max, Bool, true, false, not, List, [], ◌∷◌, ◌++◌, map, filter, sum_by, slice_get, Option, Some, None, IsTrue}
use Rattle.std.specs.List.{list_all}
use Rattle.std.specs.Option.{option_map_or}
use Rattle.std.proofs.Common.{refl, ap, subst, ◌∙◌, inl, inr, cond, arith}
use Rattle.std.proofs.lemmas.Bool.{cases_Bool, and_parts, not-true}
use Rattle.std.proofs.lemmas.List.Sums.{sum_by-append}
use Rattle.drf_role.specs.Text.{Text, same_text}
use Rattle.drf_role.specs.Path.{Path}
use Rattle.drf_bundle.specs.Quantities.{amount_of, is_named}
use Rattle.drf_rows.specs.LimitNumbers.{LimitNumbers}
use Rattle.drf_rows.specs.Holdings.{Holding, holding_of_offer, holding_of_task, holdings_of}
use Rattle.drf_rows.specs.Cycle.{at_timestamp}
use Rattle.drf_rows.specs.Consistent.{IsConsistent}
use Rattle.drf_rows.specs.Releases.{Release, ends_offer, ends_task, without_ended, one_offer, one_task, offers_on, all_on, all_of}
use Rattle.drf_bundle.proofs.ListLaws.{sum_by-map, sum_by-filter, sum_by_each_le, cond_le}
use Rattle.drf_rows.specs.Members.{active_at}
use Rattle.drf_rows.specs.Offers.{offer_at, offer_accepted, offer_declined}
use Rattle.drf_row_laws.proofs.FrameLaws.{only_changed}
use Rattle.drf_rows.specs.Quota.{unreserved_in, reserved_in, held_unreserved, reserved_for, consumption_where, consumption, is_within}
use Rattle.drf_row_laws.proofs.QuotaLaws.{cycle_keeps_limits}
use Rattle.drf_row_laws.proofs.ReservationLaws.{reserving_keeps_limits, moved_is_consumed, consumption-with_total}
use Rattle.drf_laws.proofs.ConsumptionLaws.{every, rest_is_consumed_no_longer}
use Rattle.drf_row_laws.proofs.LiveLaws.{rows_after-live}
use Rattle.drf_rows.specs.Step.{live_rows, refusal_of, effect, rows_after}
use Rattle.drf_row_laws.proofs.StepLaws.{rows_after-refused, rows_after-accepted}
use Rattle.drf_rows.specs.declared.event.Event.{Event}
use Rattle.drf_rows.specs.declared.event.Event.TheVariants.{AddAgent, RemoveAgent, ActivateAgent, DeactivateAgent, SetAgent, RemoveFramework, Accept, Decline, Rescind, Finish, Reserve, Unreserve, SetLimit, Cycle}
use Rattle.drf_rows.specs.declared.reply.Refusal.{Refusal}
use Rattle.drf_rows.specs.declared.rows.AgentRow.{AgentRow}
use Rattle.drf_rows.specs.declared.rows.LimitRow.{LimitRow}
use Rattle.drf_rows.specs.declared.rows.OfferRow.{OfferRow}
use Rattle.drf_rows.specs.declared.rows.TaskRow.{TaskRow}
use Rattle.drf_rows.specs.declared.rows.Rows.{Rows}
use Rattle.drf_laws.specs.KeptLimitLaws.{ChangedAgentIsConsumed, changes_totals, IsGivenBundles, RunsKeepLimits}

pub changed_agent_is_consumed : ChangedAgentIsConsumed
unfolding effect
changed_agent_is_consumed rows agent total row test label consistent found =
    consumption-with_total rows agent row consistent found (λ old. total) test label

-- ---- release of resources

some_le : {X : Type 0} (f : X → ℕ) (p : X → Bool) (xs : List X) → sum_by f (filter p xs) ≤ sum_by f xs
some_le {X} f p xs =
    omega (
      arith,
      sum_by-filter f p xs,
      sum_by_each_le (λ x. cond (p x) (f x) 0) f xs (every (λ (x : X). cond (p x) (f x) 0 ≤ f x) (λ x. cond_le (p x) (f x)) xs),
    )

module _ (test : Path → Bool) (label : Text) where
  abbrev consumed_by : Holding → ℕ
  consumed_by h = cond (test h.client.role) (unreserved_in label h.bundle) 0

  held_le : (offers : List OfferRow) (tasks : List TaskRow) (p : OfferRow → Bool) (q : TaskRow → Bool)
      → sum_by consumed_by (map holding_of_offer (filter p offers) ++ map holding_of_task (filter q tasks))
      ≤ sum_by consumed_by (map holding_of_offer offers ++ map holding_of_task tasks)
  held_le offers tasks p q =
      omega (
        arith,
        sum_by-append consumed_by (map holding_of_offer (filter p offers)) (map holding_of_task (filter q tasks)),
        sum_by-append consumed_by (map holding_of_offer offers) (map holding_of_task tasks),
        sum_by-map consumed_by holding_of_offer (filter p offers),
        sum_by-map consumed_by holding_of_offer offers,
        sum_by-map consumed_by holding_of_task (filter q tasks),
        sum_by-map consumed_by holding_of_task tasks,
        some_le (λ o. consumed_by (holding_of_offer o)) p offers,
        some_le (λ t. consumed_by (holding_of_task t)) q tasks,
      )

  ended_le : (rows : Rows) (release : Release) → consumption_where test (without_ended rows release) label ≤ consumption_where test rows label
  ended_le rows release =
      omega (arith, held_le rows.offers rows.tasks (λ o. not (ends_offer release o)) (λ t. not (ends_task release t)))

  fewer_agents : (rows : Rows) (release : Release) (p : AgentRow → Bool)
      → held_unreserved test (holdings_of (without_ended rows release)) label + reserved_for test (filter p rows.agents) label
      ≤ consumption_where test rows label
  fewer_agents rows release p =
      omega (
        arith,
        held_le rows.offers rows.tasks (λ o. not (ends_offer release o)) (λ t. not (ends_task release t)),
        some_le (λ a. reserved_in test label a.total) p rows.agents,
      )

  same_total : (name : Text) (active : Bool) (a : AgentRow) → (active_at name active a).total ≡ a.total
  same_total name active a = elim (cases_Bool (same_text a.name name)) [ inl here ↦ rw here refl | inr past ↦ rw past refl ]

  reserved-active : (name : Text) (active : Bool) (agents : List AgentRow)
      → reserved_for test (map (active_at name active) agents) label ≡ reserved_for test agents label
  reserved-active name active agents =
      sum_by-map (λ a. reserved_in test label a.total) (active_at name active) agents
      ∙ (λ i. sum_by (λ a. reserved_in test label (same_total name active a i)) agents)

-- ---- one event

at_most : (a b c : ℕ) → a ≤ b → a ≤ max c b
at_most a b c le = omega (arith, le)

no_less : (a : ℕ) → a ≤ a
no_less a = omega arith

module _ (limits : LimitNumbers) (rows : Rows) (label : Text) (place : ℕ) (l : LimitRow) (consistent : IsConsistent rows)
    (at : slice_get rows.limits place ≡ Some l) (named : IsTrue (is_named l.limit label)) where
  abbrev its : Path → Bool
  its = is_within l.role

  abbrev StaysWithin : Rows → Type 0
  StaysWithin after = consumption after l.role label ≤ max (amount_of l.limit label) (consumption rows l.role label)

  falls : (after : Rows) → consumption_where (is_within l.role) after label ≤ consumption_where (is_within l.role) rows label → StaysWithin after
  falls after le =
      at_most (consumption after l.role label) (consumption rows l.role label) (amount_of l.limit label) le

  stays : StaysWithin rows
  stays = falls rows (no_less (consumption rows l.role label))

  effect_keeps : (event : Event) → IsGivenBundles event → changes_totals event ≡ false → refusal_of limits rows event ≡ None
      → StaysWithin (effect rows event)
  unfolding effect
  effect_keeps (AddAgent agent total) given kind accepted = cc
  effect_keeps (RemoveAgent agent) given kind accepted =
      at_most _ _ _ (fewer_agents its label rows (all_on agent) (λ a. not (same_text a.name agent)))
  effect_keeps (ActivateAgent agent) given kind accepted =
      at_most _ _ _ (omega (arith, reserved-active its label agent true rows.agents))
  effect_keeps (DeactivateAgent agent) given kind accepted =
      at_most _ _ _ (omega (arith, reserved-active its label agent false rows.agents, ended_le its label rows (offers_on agent)))
  effect_keeps (SetAgent agent total) given kind accepted = cc
  effect_keeps (RemoveFramework framework) given kind accepted = at_most _ _ _ (ended_le its label rows (all_of framework))
  effect_keeps (Accept a) given kind accepted = by (offer_at rows a.offer) refl
    where
      by : (f : Option OfferRow) → offer_at rows a.offer ≡ f
          → StaysWithin (option_map_or (λ o. offer_accepted (at_timestamp rows a.at) o a.tasks a.refuse_ms) f rows)
      by None found = stays
      by (Some o) found =
          at_most _ _ _
          (omega (
            arith,
            rest_is_consumed_no_longer limits rows a o its label consistent given found accepted,
            ap (λ (f : Option OfferRow). consumption_where its (option_map_or (λ o. offer_accepted (at_timestamp rows a.at) o a.tasks a.refuse_ms) f rows) label) found,
          ))
  effect_keeps (Decline d) given kind accepted = by (offer_at rows d.offer)
    where
      by : (f : Option OfferRow) → StaysWithin (option_map_or (λ o. offer_declined (at_timestamp rows d.at) o d.refuse_ms) f rows)
      by None = stays
      by (Some o) = at_most _ _ _ (ended_le its label rows (one_offer o.number))
  effect_keeps (Rescind offer) given kind accepted = at_most _ _ _ (ended_le its label rows (one_offer offer))
  effect_keeps (Finish framework task) given kind accepted = at_most _ _ _ (ended_le its label rows (one_task framework task))
  effect_keeps (Reserve agent role resources) given kind accepted =
      reserving_keeps_limits limits rows agent role resources label place l consistent given accepted at named
  effect_keeps (Unreserve agent role resources) given kind accepted =
      at_most _ _ _ (omega (arith, (moved_is_consumed limits rows agent role resources its label consistent given).1 accepted))
  effect_keeps (SetLimit role limit) given kind accepted = cc
  effect_keeps (Cycle timestamp) given kind accepted = cycle_keeps_limits rows timestamp label place l consistent at named
  effect_keeps event given kind accepted = stays

-- no other event sets a limit
limits_stay : (rows : Rows) (event : Event) → changes_totals event ≡ false → (effect rows event).limits ≡ rows.limits
limits_stay rows (SetLimit role limit) kind = cc
limits_stay rows event kind = ap (λ (r : Rows). r.limits) (only_changed rows event)

-- ---- a step and a run

module _ (limits : LimitNumbers) (rows : Rows) (event : Event) (label : Text) (place : ℕ) (l : LimitRow)
    (consistent : IsConsistent (live_rows rows)) (given : IsGivenBundles event) (kind : changes_totals event ≡ false) (at : slice_get rows.limits place ≡ Some l)
    (named : IsTrue (is_named l.limit label)) where
  abbrev KeepsBoth : Rows → Type 0
  KeepsBoth after =
      (after.limits ≡ rows.limits) × (consumption after l.role label ≤ max (amount_of l.limit label) (consumption rows l.role label))

  -- after each event the current state is the same, whichever filters had expired
  step_keeps : KeepsBoth (rows_after limits rows event)
  step_keeps = subst (λ (after : Rows). KeepsBoth after) (rows_after-live limits rows event) (by (refusal_of limits (live_rows rows) event) refl)
    where
      by : (f : Option Refusal) → refusal_of limits (live_rows rows) event ≡ f → KeepsBoth (rows_after limits (live_rows rows) event)
      by None accepted =
          let is = rows_after-accepted limits (live_rows rows) event accepted in
          let kept = effect_keeps limits (live_rows rows) label place l consistent at named event given kind accepted in (
            ap (λ (r : Rows). r.limits) is ∙ limits_stay (live_rows rows) event kind,
            omega (arith, kept, ap (λ (r : Rows). consumption r l.role label) is),
          )
      by (Some refusal) refused =
          let is = rows_after-refused limits (live_rows rows) event refusal refused in (
            ap (λ (r : Rows). r.limits) is,
            omega (arith, ap (λ (r : Rows). consumption r l.role label) is),
          )

pub runs_keep_limits : RunsKeepLimits
runs_keep_limits limits rows [] label place l stay kinds at named = omega arith
runs_keep_limits limits rows (event ∷ events) label place l stay kinds at named =
    let parts = and_parts (not (changes_totals event)) (list_all (λ e. not (changes_totals e)) events) kinds in
    let one = step_keeps limits rows event label place l stay.0 stay.1 (not-true (changes_totals event) parts.0) at named in
    omega (
      arith,
      one.1,
      runs_keep_limits limits (rows_after limits rows event) events label place l stay.2 parts.1
          (ap (λ (ls : List LimitRow). slice_get ls place) one.0 ∙ at) named,
    )
