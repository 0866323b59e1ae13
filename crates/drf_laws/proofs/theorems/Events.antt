-- A consistent state is consistent after each accepted event.
use Rattle.std.proofs.Common.{◌≡◌, ℕ, ◌≤◌, Bool, true, false, List, [], ◌∷◌, Option, Some, None, map, refl, sym, ap, subst, ◌∙◌}
use Rattle.std.specs.Prelude.{max}
use Rattle.std.specs.List.{AllByRecursion}
use Rattle.std.specs.Option.{option_map_or}
use Rattle.std.proofs.lemmas.Bool.{not-false}
use Rattle.drf_role.specs.Text.{Text}
use Rattle.drf_role.specs.Name.{IsName}
use Rattle.drf_role.specs.Path.{Path}
use Rattle.drf_role.specs.Role.{IsRole}
use Rattle.drf_bundle.specs.Bundle.{IsBundle, quantities_of, relabel}
use Rattle.drf_bundle.proofs.theorems.TakenLaws.{bundle-rest_of_all}
use Rattle.drf_bundle.specs.declared.resource.Resource.{Resource}
use Rattle.drf_rows.specs.LimitNumbers.{LimitNumbers}
use Rattle.drf_rows.specs.Consistent.{are_distinct_roles, IsFilter, IsConsistent}
use Rattle.drf_rows.specs.Cycle.{at_timestamp}
use Rattle.drf_rows.specs.Releases.{without_ended, one_offer, one_task, offers_on}
use Rattle.drf_rows.specs.Members.{distinct, has_agent, new_client}
use Rattle.drf_rows.specs.Offers.{offer_at, filter_of, filters_with, left_of_offer, offer_accepted, offer_declined, filtered_until, filters_all, filters_rest, CanStart}
use Rattle.drf_rows.specs.Step.{refusal_of, effect}
use Rattle.drf_rows.specs.Tasks.{uses}
use Rattle.drf_row_laws.proofs.ReleaseLaws.{accepted_in, held-offer_at, IsConsistent-accepted, IsConsistent-filters}
use Rattle.drf_row_laws.proofs.LimitLaws.{IsConsistent-limit_set}
use Rattle.drf_bundle.proofs.ListLaws.{each_append}
use Rattle.drf_row_laws.proofs.MemberLaws.{IsConsistent-with_activity, IsConsistent-with_suppression, IsConsistent-revived}
use Rattle.drf_row_laws.proofs.RegistrationLaws.{IsConsistent-agent_added, IsConsistent-framework_added}
use Rattle.drf_row_laws.proofs.ReservationLaws.{found_known, can_move-reserve, can_move-unreserve, can_exchange-reserve, can_exchange-unreserve, IsConsistent-other_total}
use Rattle.drf_row_laws.proofs.TotalsLaws.{IsConsistent-exchanged}
use Rattle.drf_row_laws.proofs.WeightLaws.{IsConsistent-weight_set}
use Rattle.drf_rows.specs.declared.event.Accept as accepting
use Rattle.drf_rows.specs.declared.event.Decline as declining
use Rattle.drf_rows.specs.declared.event.Event.{Event}
use Rattle.drf_rows.specs.declared.event.Event.TheVariants.{AddAgent, RemoveAgent, ActivateAgent, DeactivateAgent, SetAgent, AddFramework, SetFramework, RemoveFramework, Accept, Decline, Rescind, Finish, Suppress, Revive, Reserve, Unreserve, SetWeight, SetLimit, Cycle, Report}
use Rattle.drf_rows.specs.declared.limits.TheConstants.{LARGEST_AMOUNT, LATEST_TIMESTAMP}
use Rattle.drf_rows.specs.declared.rows.FilterRow.{FilterRow}
use Rattle.drf_rows.specs.declared.rows.OfferRow.{OfferRow}
use Rattle.drf_rows.specs.declared.rows.Rows.{Rows}
use Rattle.drf_laws.specs.RunLaws.{IsGiven}
use Rattle.drf_laws.proofs.theorems.Roles.{distinct_apart, each-distinct, roles_of_new, uncounted_new}
use Rattle.drf_laws.proofs.theorems.RoleChanges.{IsConsistent-roles_set}
use Rattle.drf_laws.proofs.theorems.Kept.{consistent-clock}
use Rattle.drf_row_laws.proofs.OfferLaws.{offer_filter, same_offer, timestamp_early}
use Rattle.drf_laws.proofs.theorems.Offers.{can_accept}
use Rattle.drf_laws.proofs.theorems.Welcome.{no_case_of, welcome_agent, welcome_framework, welcome_weight, welcome_decline, early_accept, early_cycle, small_amounts}
use Rattle.drf_laws.proofs.theorems.Releases.{IsConsistent-ended, IsConsistent-agent_left, IsConsistent-framework_left}
use Rattle.drf_laws.proofs.theorems.Cycles.{IsConsistent-cycle}

-- ---- agents

module _ (limits : LimitNumbers) (rows : Rows) (consistent : IsConsistent rows) where
  agent_added : (agent : Text) (total : List Resource) → IsBundle total → refusal_of limits rows (AddAgent agent total) ≡ None
      → IsConsistent (effect rows (AddAgent agent total))
  unfolding effect
  agent_added agent total is accepted =
      let welcome = welcome_agent limits rows agent total accepted in
      IsConsistent-agent_added rows agent total consistent welcome.new
      (record { total = is; small = λ label. small_amounts (quantities_of total) LARGEST_AMOUNT label welcome.small })

  agent_set : (agent : Text) (total : List Resource) → IsBundle total → refusal_of limits rows (SetAgent agent total) ≡ None
      → IsConsistent (effect rows (SetAgent agent total))
  unfolding effect
  agent_set agent total is accepted =
      let no = no_case_of limits rows (SetAgent agent total) accepted in
      let row = found_known rows agent (not-false (has_agent rows agent) no.1.0) in
      IsConsistent-other_total rows agent row.0 total consistent row.1 is no.1.1.0
      (record { total = is; small = λ label. small_amounts (quantities_of total) LARGEST_AMOUNT label no.1.1.1.0 })

  -- ---- frameworks

  framework_added : (framework : Text) (roles : List Path) → IsName framework → AllByRecursion IsRole roles
      → refusal_of limits rows (AddFramework framework roles) ≡ None → IsConsistent (effect rows (AddFramework framework roles))
  unfolding effect
  framework_added framework roles name valid accepted =
      IsConsistent-framework_added rows (record { name = framework; clients = map new_client (distinct roles) }) consistent
      (welcome_framework limits rows framework roles accepted).new
      (record { name = name; roles = subst (AllByRecursion IsRole) (sym (roles_of_new (distinct roles))) (each-distinct IsRole roles valid) })
      (ap are_distinct_roles (roles_of_new (distinct roles)) ∙ distinct_apart roles)
      (uncounted_new (distinct roles))

  -- ---- offers

  -- the filters after an accept or a decline are valid, whether it sets a filter or not
  are_filters : (number : ℕ) (o : OfferRow) (bundle : List Resource) (at refuse_ms : ℕ) → offer_at rows number ≡ Some o → IsBundle bundle
      → max rows.clock at ≤ LATEST_TIMESTAMP → (refused : Bool)
      → AllByRecursion (IsFilter rows.agents rows.frameworks) (filters_with (at_timestamp rows at) refused o bundle refuse_ms)
  are_filters number o bundle at refuse_ms found is early true =
      each_append (IsFilter rows.agents rows.frameworks) rows.filters (filter_of o bundle (filtered_until (max rows.clock at) refuse_ms) ∷ [])
      consistent.filters (offer_filter rows number o bundle (max rows.clock at) refuse_ms consistent found is early, tt)
  are_filters number o bundle at refuse_ms found is early false = consistent.filters

  offer_taken : (a : accepting.Accept) → AllByRecursion IsBundle (uses a.tasks) → refusal_of limits rows (Accept a) ≡ None
      → (o : OfferRow) → offer_at rows a.offer ≡ Some o → IsConsistent (offer_accepted (at_timestamp rows a.at) o a.tasks a.refuse_ms)
  offer_taken a bundles accepted o found =
      let may = can_accept limits rows a accepted in
      let can = subst (λ (p : OfferRow). CanStart rows p a.tasks) (same_offer rows a.offer may.offer o may.at found) may.can in
      let early = timestamp_early rows a.at (max rows.clock a.at) consistent (early_accept limits rows a accepted) refl in
      let left = bundle-rest_of_all o.bundle (uses a.tasks) (held-offer_at rows a.offer o consistent found).bundle in
      let filters : List FilterRow = filters_with (at_timestamp rows a.at) (filters_rest o a.tasks a.refuse_ms) o (left_of_offer o a.tasks) a.refuse_ms in
      let started : Rows = accepted_in rows o a.tasks [] in
      consistent-clock (record started { filters = filters }) (max rows.clock a.at)
      (IsConsistent-filters started filters
      (IsConsistent-accepted rows a.offer o a.tasks [] consistent found bundles can tt)
      (are_filters a.offer o (left_of_offer o a.tasks) a.at a.refuse_ms found left early (filters_rest o a.tasks a.refuse_ms)))
      early

  offer_given_back : (d : declining.Decline) → refusal_of limits rows (Decline d) ≡ None
      → (o : OfferRow) → offer_at rows d.offer ≡ Some o → IsConsistent (offer_declined (at_timestamp rows d.at) o d.refuse_ms)
  offer_given_back d accepted o found =
      let early = timestamp_early rows d.at (max rows.clock d.at) consistent (welcome_decline limits rows d accepted).0 refl in
      let filters : List FilterRow = filters_with (at_timestamp rows d.at) (filters_all d.refuse_ms) o o.bundle d.refuse_ms in
      let ended : Rows = without_ended rows (one_offer o.number) in
      consistent-clock (record ended { filters = filters }) (max rows.clock d.at)
      (IsConsistent-filters ended filters
      (IsConsistent-ended rows (one_offer o.number) consistent)
      (are_filters d.offer o o.bundle d.at d.refuse_ms found (held-offer_at rows d.offer o consistent found).bundle early (filters_all d.refuse_ms)))
      early

  at_offer : (number : ℕ) (become : OfferRow → Rows) → ((o : OfferRow) → offer_at rows number ≡ Some o → IsConsistent (become o))
      → IsConsistent (option_map_or become (offer_at rows number) rows)
  at_offer number become each = by (offer_at rows number) refl
    where
      by : (f : Option OfferRow) → offer_at rows number ≡ f → IsConsistent (option_map_or become f rows)
      by None found = consistent
      by (Some o) found = each o found

  -- ---- each event

  pub IsConsistent-effect : (event : Event) → IsGiven event → refusal_of limits rows event ≡ None → IsConsistent (effect rows event)
  unfolding effect
  IsConsistent-effect (AddAgent agent total) given accepted = agent_added agent total given accepted
  IsConsistent-effect (RemoveAgent agent) given accepted = IsConsistent-agent_left rows agent consistent
  IsConsistent-effect (ActivateAgent agent) given accepted = IsConsistent-with_activity rows agent true consistent
  IsConsistent-effect (DeactivateAgent agent) given accepted =
      IsConsistent-with_activity (without_ended rows (offers_on agent)) agent false (IsConsistent-ended rows (offers_on agent) consistent)
  IsConsistent-effect (SetAgent agent total) given accepted = agent_set agent total given accepted
  IsConsistent-effect (AddFramework framework roles) given accepted =
      framework_added framework roles given.0 given.1 accepted
  IsConsistent-effect (SetFramework framework roles) given accepted =
      IsConsistent-roles_set rows framework roles consistent given (no_case_of limits rows (SetFramework framework roles) accepted).1.1.1.1.0
  IsConsistent-effect (RemoveFramework framework) given accepted = IsConsistent-framework_left rows framework consistent
  IsConsistent-effect (Accept a) given accepted =
      at_offer a.offer (λ o. offer_accepted (at_timestamp rows a.at) o a.tasks a.refuse_ms) (offer_taken a given accepted)
  IsConsistent-effect (Decline d) given accepted =
      at_offer d.offer (λ o. offer_declined (at_timestamp rows d.at) o d.refuse_ms) (offer_given_back d accepted)
  IsConsistent-effect (Rescind offer) given accepted = IsConsistent-ended rows (one_offer offer) consistent
  IsConsistent-effect (Finish framework task) given accepted = IsConsistent-ended rows (one_task framework task) consistent
  IsConsistent-effect (Suppress framework role) given accepted =
      IsConsistent-with_suppression rows (record { role = role; framework = framework }) true consistent
  IsConsistent-effect (Revive framework role) given accepted =
      IsConsistent-revived rows (record { role = role; framework = framework }) consistent
  IsConsistent-effect (Reserve agent role resources) given accepted =
      let can = (can_move-reserve limits rows agent role resources accepted).0 in
      IsConsistent-exchanged rows agent can.row consistent can.found resources (relabel role resources)
      (can_exchange-reserve rows agent role resources consistent given can)
  IsConsistent-effect (Unreserve agent role resources) given accepted =
      let can = can_move-unreserve limits rows agent role resources accepted in
      IsConsistent-exchanged rows agent can.row consistent can.found (relabel role resources) resources
      (can_exchange-unreserve rows agent role resources consistent given can)
  IsConsistent-effect (SetWeight role weight) given accepted =
      IsConsistent-weight_set rows role weight (welcome_weight limits rows role weight accepted).right given consistent
  IsConsistent-effect (SetLimit role limit) given accepted =
      IsConsistent-limit_set rows role limit (no_case_of limits rows (SetLimit role limit) accepted).1.0 given consistent
  IsConsistent-effect (Cycle at) given accepted =
      IsConsistent-cycle rows at consistent (timestamp_early rows at (max rows.clock at) consistent (early_cycle limits rows at accepted) refl)
  IsConsistent-effect Report given accepted = consistent
