-- The tables stay within the capacities, over each event and each run.
use Rattle.std.proofs.Common.{◌≡◌, ℕ, ◌+◌, ◌≤◌, Bool, true, false, not, ◌&&◌, List, [], ◌∷◌, Option, Some, None, length, map, refl, sym, ap, subst, arith, nat_lt}
use Rattle.std.specs.Prelude.{max, filter}
use Rattle.std.specs.List.{AllByRecursion}
use Rattle.std.specs.Option.{option_map_or}
use Rattle.std.proofs.lemmas.Bool.{or_parts, ltb-false, not-false}
use Rattle.std.proofs.lemmas.List.{length-map}
use Rattle.drf_role.specs.Text.{same_text}
use Rattle.drf_bundle.specs.Bundle.{relabel}
use Rattle.drf_bundle.specs.declared.quantities.Entry.{Entry}
use Rattle.drf_bundle.specs.declared.resource.Resource.{Resource}
use Rattle.drf_rows.specs.LimitNumbers.{LimitNumbers}
use Rattle.drf_rows.specs.Consistent.{IsConsistent, IsNumberedByEvents}
use Rattle.drf_rows.specs.Cycle.{at_timestamp, cycle}
use Rattle.drf_rows.specs.Filters.{is_of_client, is_on_agent, number_in_force}
use Rattle.drf_rows.specs.Held.{cluster_total}
use Rattle.drf_rows.specs.Members.{distinct, has_agent, new_client, with_agent}
use Rattle.drf_rows.specs.Roles.{is_of_left}
use Rattle.drf_rows.specs.Offers.{are_many_filters, filter_of, filters_with, is_empty, left_of_offer, offer_at, offer_accepted, offer_declined, filtered_until, filters_all, filters_rest}
use Rattle.drf_rows.specs.Quota.{has_limit}
use Rattle.drf_rows.specs.Step.{opening, new_offers, refusal_of, effect, rows_after, rows_after_all, too_many_names}
use Rattle.drf_bundle.proofs.ListLaws.{each_append, each_filter}
use Rattle.drf_row_laws.proofs.MemberLaws.{cluster_total-with_activity}
use Rattle.drf_row_laws.proofs.FrameLaws.{cycle_only, only_changed}
use Rattle.drf_row_laws.proofs.OthersLaws.{cycle_only_offers}
use Rattle.drf_row_laws.proofs.ReservationLaws.{found_known, can_move-reserve, can_move-unreserve, can_exchange-reserve, can_exchange-unreserve}
use Rattle.drf_row_laws.proofs.StepLaws.{rows_after-refused, rows_after-accepted}
use Rattle.drf_row_laws.proofs.TotalsLaws.{cluster_total-exchanged}
use Rattle.drf_rows.specs.declared.event.Accept as accepting
use Rattle.drf_rows.specs.declared.event.Decline as declining
use Rattle.drf_rows.specs.declared.event.Event.{Event}
use Rattle.drf_rows.specs.declared.event.Event.TheVariants.{AddAgent, RemoveAgent, ActivateAgent, DeactivateAgent, SetAgent, AddFramework, SetFramework, RemoveFramework, Accept, Decline, Suppress, Revive, Reserve, Unreserve, SetLimit, Cycle}
use Rattle.drf_rows.specs.declared.reply.Refusal.{Refusal}
use Rattle.drf_rows.specs.declared.rows.FilterRow.{FilterRow}
use Rattle.drf_rows.specs.declared.rows.FrameworkRow.{FrameworkRow}
use Rattle.drf_rows.specs.declared.rows.LimitRow.{LimitRow}
use Rattle.drf_rows.specs.declared.rows.OfferRow.{OfferRow}
use Rattle.drf_rows.specs.declared.rows.Rows.{Rows}
use Rattle.drf_laws.specs.Kept.{AreFew, IsKept}
use Rattle.drf_laws.specs.BoundLaws.{RunsStayWithinLimits}
use Rattle.drf_laws.specs.RunLaws.{IsGiven, AreGiven}
use Rattle.drf_laws.proofs.theorems.Welcome.{no_case_of, welcome_agent, welcome_framework}
use Rattle.drf_laws.proofs.theorems.Kept.{countable_after, IsKept-opening}
use Rattle.drf_laws.proofs.theorems.Bounds.{fewer_in_force, in_force_later, one_more_in_force, length-with, names-with, roles-suppressed, roles-counted, names-without_agent}
use Rattle.drf_laws.proofs.theorems.RoleChanges.{roles-set}
use Rattle.drf_laws.proofs.theorems.Runs.{IsConsistent-after}

-- what `IsKept` does not say about the tables
pub record AreBounded (most : LimitNumbers) (rows : Rows) : Type 0 where
  pub roles : AllByRecursion (λ f. length f.clients ≤ most.roles) rows.frameworks
  pub filters : number_in_force rows.clock rows.filters ≤ most.filters
  pub limits : length rows.limits ≤ most.limits
  pub names : length (cluster_total rows.agents) ≤ most.scalar_names
  pub names_of_each : AllByRecursion (λ l. length l.limit ≤ most.scalar_names) rows.limits

module _ (most : LimitNumbers) (rows : Rows) (consistent : IsConsistent rows) (bounded : AreBounded most rows) where
  -- ---- the roles of a framework

  abbrev FewRoles : FrameworkRow → Type 0
  FewRoles f = length f.clients ≤ most.roles

  roles_after : (event : Event) → refusal_of most rows event ≡ None → AllByRecursion FewRoles (effect rows event).frameworks
  unfolding effect
  roles_after (AddFramework framework roles) accepted =
      let many = or_parts (nat_lt most.frameworks (length rows.frameworks + 1)) _ (welcome_framework most rows framework roles accepted).few in
      let few = ltb-false most.roles (length (distinct roles)) (or_parts (nat_lt most.roles (length (distinct roles))) _ many.1).0 in
      each_append FewRoles rows.frameworks (record { name = framework; clients = map new_client (distinct roles) } ∷ []) bounded.roles
      (omega (arith, few, length-map (distinct roles) new_client), tt)
  roles_after (SetFramework framework roles) accepted =
      let over = or_parts (nat_lt most.roles (length (distinct roles))) _ (no_case_of most rows (SetFramework framework roles) accepted).1.1.1.0 in
      roles-set most.roles rows framework roles consistent.frameworks (ltb-false most.roles (length (distinct roles)) over.0) bounded.roles
  roles_after (RemoveFramework framework) accepted = each_filter FewRoles (λ f. not (same_text f.name framework)) rows.frameworks bounded.roles
  roles_after (Suppress framework role) accepted =
      roles-suppressed most.roles (record { role = role; framework = framework }) true rows.frameworks bounded.roles
  roles_after (Revive framework role) accepted =
      roles-suppressed most.roles (record { role = role; framework = framework }) false rows.frameworks bounded.roles
  roles_after (Cycle at) accepted =
      subst (AllByRecursion FewRoles) (sym (cycle_only_offers rows at).counts)
      (roles-counted most.roles (new_offers rows (cycle rows at)) rows.frameworks bounded.roles)
  roles_after event accepted = subst (λ (r : Rows). AllByRecursion FewRoles r.frameworks) (sym (only_changed rows event)) bounded.roles

  -- ---- filters

  filters_then : (at : ℕ) (refused : Bool) (o : OfferRow) (bundle : List Resource) (refuse_ms : ℕ)
      → (refused && are_many_filters most rows at) ≡ false
      → number_in_force (max rows.clock at) (filters_with (at_timestamp rows at) refused o bundle refuse_ms) ≤ most.filters
  filters_then at true o bundle refuse_ms few =
      one_more_in_force most.filters (max rows.clock at) rows.filters (filter_of o bundle (filtered_until (max rows.clock at) refuse_ms)) few
  filters_then at false o bundle refuse_ms few =
      omega (arith, in_force_later rows.clock (max rows.clock at) rows.filters (omega arith), bounded.filters)

  abbrev FewFilters : Rows → Type 0
  FewFilters r = number_in_force r.clock r.filters ≤ most.filters

  filters-accepted : (a : accepting.Accept) (found : Option OfferRow)
      → (option_map_or (λ o. filters_rest o a.tasks a.refuse_ms) found false && are_many_filters most rows a.at) ≡ false
      → FewFilters (option_map_or (λ o. offer_accepted (at_timestamp rows a.at) o a.tasks a.refuse_ms) found rows)
  filters-accepted a None few = bounded.filters
  filters-accepted a (Some o) few = filters_then a.at (filters_rest o a.tasks a.refuse_ms) o (left_of_offer o a.tasks) a.refuse_ms few

  filters-declined : (d : declining.Decline) (found : Option OfferRow) → (filters_all d.refuse_ms && are_many_filters most rows d.at) ≡ false
      → FewFilters (option_map_or (λ o. offer_declined (at_timestamp rows d.at) o d.refuse_ms) found rows)
  filters-declined d None few = bounded.filters
  filters-declined d (Some o) few = filters_then d.at (filters_all d.refuse_ms) o o.bundle d.refuse_ms few

  fewer_filters : (stays : FilterRow → Bool) → number_in_force rows.clock (filter stays rows.filters) ≤ most.filters
  fewer_filters stays = omega (arith, fewer_in_force rows.clock stays rows.filters, bounded.filters)

  filters_after : (event : Event) → refusal_of most rows event ≡ None → FewFilters (effect rows event)
  unfolding effect
  filters_after (RemoveAgent agent) accepted = fewer_filters (λ f. not (is_on_agent agent f))
  filters_after (SetFramework framework roles) accepted = fewer_filters (λ f. not (is_of_left framework roles f))
  filters_after (RemoveFramework framework) accepted = fewer_filters (λ f. not (same_text f.framework framework))
  filters_after (Accept a) accepted = filters-accepted a (offer_at rows a.offer) (no_case_of most rows (Accept a) accepted).1.1.1.1.1.1.1.1.0
  filters_after (Decline d) accepted = filters-declined d (offer_at rows d.offer) (no_case_of most rows (Decline d) accepted).1.1.1.1.1.0
  filters_after (Revive framework role) accepted = fewer_filters (λ f. not (is_of_client (record { role = role; framework = framework }) f))
  filters_after (Cycle at) accepted =
      subst FewFilters (sym (cycle_only rows at))
      (omega (arith, in_force_later rows.clock (max rows.clock at) rows.filters (omega arith), bounded.filters))
  filters_after event accepted = subst FewFilters (sym (only_changed rows event)) bounded.filters

  -- ---- limits of roles

  abbrev AreFewLimits : List LimitRow → Type 0
  AreFewLimits limits = (length limits ≤ most.limits) × AllByRecursion (λ l. length l.limit ≤ most.scalar_names) limits

  limits_after : (event : Event) → refusal_of most rows event ≡ None → AreFewLimits (effect rows event).limits
  unfolding effect
  limits_after (SetLimit role limit) accepted =
      let many = or_parts (not (is_empty limit) && (not (has_limit rows role) && nat_lt most.limits (length rows.limits + 1)))
      (nat_lt most.scalar_names (length limit)) (no_case_of most rows (SetLimit role limit) accepted).1.1.0 in (
        length-with role most.limits limit rows.limits bounded.limits many.0,
        names-with role most.scalar_names limit rows.limits (ltb-false most.scalar_names (length limit) many.1) bounded.names_of_each,
      )
  limits_after event accepted =
      subst (λ (r : Rows). AreFewLimits r.limits) (sym (only_changed rows event)) (bounded.limits, bounded.names_of_each)

  -- ---- the scalars of the cluster

  names_as_before : (total : List Entry) → total ≡ cluster_total rows.agents → length total ≤ most.scalar_names
  names_as_before total same = omega (arith, ap length same, bounded.names)

  names_after : (event : Event) → IsGiven event → refusal_of most rows event ≡ None
      → length (cluster_total (effect rows event).agents) ≤ most.scalar_names
  unfolding effect
  names_after (AddAgent agent total) given accepted =
      let many = or_parts (nat_lt most.agents (length (with_agent rows agent total))) (too_many_names most (with_agent rows agent total))
      (welcome_agent most rows agent total accepted).few in
      ltb-false most.scalar_names (length (cluster_total (with_agent rows agent total))) many.1
  names_after (RemoveAgent agent) given accepted =
      let row = found_known rows agent (not-false (has_agent rows agent) (no_case_of most rows (RemoveAgent agent) accepted).1.0) in
      omega (arith, names-without_agent rows agent row.0 consistent row.1, bounded.names)
  names_after (ActivateAgent agent) given accepted = names_as_before _ (cluster_total-with_activity rows agent true)
  names_after (DeactivateAgent agent) given accepted = names_as_before _ (cluster_total-with_activity rows agent false)
  names_after (SetAgent agent total) given accepted =
      ltb-false most.scalar_names _ (no_case_of most rows (SetAgent agent total) accepted).1.1.1.1.0
  names_after (Reserve agent role resources) given accepted =
      let can = (can_move-reserve most rows agent role resources accepted).0 in
      names_as_before _
      (cluster_total-exchanged rows agent can.row consistent can.found resources (relabel role resources)
      (can_exchange-reserve rows agent role resources consistent given can))
  names_after (Unreserve agent role resources) given accepted =
      let can = can_move-unreserve most rows agent role resources accepted in
      names_as_before _
      (cluster_total-exchanged rows agent can.row consistent can.found (relabel role resources) resources
      (can_exchange-unreserve rows agent role resources consistent given can))
  names_after event given accepted = names_as_before _ (ap (λ (r : Rows). cluster_total r.agents) (only_changed rows event))

-- ---- a step, and a run

pub record Stands (limits : LimitNumbers) (rows : Rows) : Type 0 where
  pub kept : IsKept limits rows
  pub bounded : AreBounded limits rows

stands_after : (limits : LimitNumbers) (rows : Rows) (event : Event) → IsGiven event → Stands limits rows → Stands limits (rows_after limits rows event)
stands_after limits rows event given stands = by (refusal_of limits rows event) refl
  where
    by : (f : Option Refusal) → refusal_of limits rows event ≡ f → Stands limits (rows_after limits rows event)
    by None accepted =
        let is = sym (rows_after-accepted limits rows event accepted) in
        let kept = stands.kept in
        let counted = countable_after limits rows kept.few kept.numbered event accepted in
        let limits_of_roles = limits_after limits rows kept.consistent stands.bounded event accepted in
        record {
          kept = record {
            consistent = IsConsistent-after limits rows event kept.consistent given;
            few = subst (AreFew limits) is counted.few;
            numbered = subst IsNumberedByEvents is counted.numbered;
          };
          bounded = subst (AreBounded limits) is (record {
            roles = roles_after limits rows kept.consistent stands.bounded event accepted;
            filters = filters_after limits rows kept.consistent stands.bounded event accepted;
            limits = limits_of_roles.0;
            names = names_after limits rows kept.consistent stands.bounded event given accepted;
            names_of_each = limits_of_roles.1;
          });
        }
    by (Some refusal) refused = subst (Stands limits) (sym (rows_after-refused limits rows event refusal refused)) stands

pub run_stands : (limits : LimitNumbers) (rows : Rows) (events : List Event) → AreGiven events → Stands limits rows
    → Stands limits (rows_after_all limits rows events)
run_stands limits rows [] given stands = stands
run_stands limits rows (event ∷ events) given stands =
    run_stands limits (rows_after limits rows event) events given.1 (stands_after limits rows event given.0 stands)

pub runs_stay_within_limits : RunsStayWithinLimits
runs_stay_within_limits limits events within given =
    let first : Stands limits opening = record {
      kept = IsKept-opening limits opening refl within;
      bounded = record { roles = tt; filters = omega arith; limits = omega arith; names = omega arith; names_of_each = tt };
    } in
    let last = run_stands limits opening events given first in
    let few = last.kept.few in
    let bounded = last.bounded in
    record {
      agents = few.agents;
      frameworks = few.frameworks;
      roles_of_each = bounded.roles;
      clients = few.clients;
      filters_in_force = bounded.filters;
      weights = few.weights;
      limits_of_roles = bounded.limits;
      names = bounded.names;
      names_of_each = bounded.names_of_each;
      events = few.events;
    }
