-- After an accepted event no table exceeds its capacity, and offer numbers stay below what the number of events allows.
use Rattle.std.proofs.Common.{◌≡◌, ℕ, ◌+◌, ◌*◌, ◌<◌, ◌≤◌, ◌^◌, Bool, true, false, List, [], ◌∷◌, None, length, map, refl, sym, ap, ◌∙◌, inl, inr, arith, nat_lt}
use Rattle.std.specs.Prelude.{◌||◌, filter, not}
use Rattle.std.specs.List.{AllByRecursion}
use Rattle.std.proofs.Math.Nat.{mul-le-mul_right}
use Rattle.std.proofs.lemmas.Bool.{cases_Bool, or_parts, ltb-false}
use Rattle.std.proofs.lemmas.List.{length-append, length-map}
use Rattle.drf_role.specs.Text.{Text, same_text}
use Rattle.drf_role.specs.Path.{Path}
use Rattle.drf_bundle.specs.declared.resource.Resource.{Resource}
use Rattle.drf_rows.specs.LimitNumbers.{LimitNumbers, IsWithinCeilings}
use Rattle.drf_rows.specs.Client.{Client}
use Rattle.drf_rows.specs.Held.{client_of, clients_in, clients_of, cluster_total}
use Rattle.drf_rows.specs.Cycle.{at_timestamp, cycle}
use Rattle.drf_rows.specs.Step.{live_rows, refusal_of, effect, opening}
use Rattle.drf_rows.specs.Members.{active_at, suppressed_at, suppressed_in, with_agent, with_framework, with_suppression, new_client, distinct}
use Rattle.drf_rows.specs.Roles.{roles_set_in, with_framework_roles}
use Rattle.drf_rows.specs.Totals.{total_at, exchanged}
use Rattle.drf_bundle.specs.Bundle.{relabel}
use Rattle.drf_row_laws.proofs.FrameLaws.{only_changed}
use Rattle.drf_row_laws.proofs.RegistrationLaws.{length-clients_of-framework_added, IsConsistent-opening}
use Rattle.drf_rows.specs.Consistent.{IsConsistent, IsFilter, IsNumberedByEvents, IsAgent}
use Rattle.drf_row_laws.proofs.ConsistentLaws.{numbers_within}
use Rattle.drf_rows.specs.declared.event.Event.{Event}
use Rattle.drf_rows.specs.declared.event.Event.TheVariants.{AddAgent, RemoveAgent, ActivateAgent, DeactivateAgent, SetAgent, AddFramework, SetFramework, RemoveFramework, Suppress, Revive, Reserve, Unreserve, SetWeight, Cycle}
use Rattle.drf_rows.specs.declared.rows.AgentRow.{AgentRow}
use Rattle.drf_rows.specs.Filters.{is_in_force}
use Rattle.drf_bundle.proofs.ListLaws.{each_from, each_filter, length-filter_le}
use Rattle.drf_row_laws.proofs.MemberLaws.{IsConsistent-filters_kept}
use Rattle.drf_rows.specs.declared.rows.FilterRow.{FilterRow}
use Rattle.drf_rows.specs.declared.rows.FrameworkRow.{FrameworkRow}
use Rattle.drf_rows.specs.declared.rows.Rows.{Rows}
use Rattle.drf_laws.specs.Kept.{AreFew, IsKept, IsCountable}
use Rattle.drf_laws.proofs.theorems.Turns.{turns-clients, turns-next_offer}
use Rattle.drf_laws.proofs.theorems.Bounds.{few_weights}
use Rattle.drf_laws.proofs.theorems.Welcome.{no_case_of, room_for, welcome_agent, welcome_framework, welcome_weight}
use Rattle.drf_rows.specs.declared.limits.TheConstants.{LATEST_TIMESTAMP}
use Rattle.drf_bundle.specs.Quantities.{amount_of}
use Rattle.drf_row_laws.proofs.ReportedShares.{small_total}

-- ---- tables that do not grow

length-clients-filter : (p : FrameworkRow → Bool) (fs : List FrameworkRow) → length (clients_in (filter p fs)) ≤ length (clients_in fs)
length-clients-filter p [] = omega arith
length-clients-filter p (f ∷ fs) =
    let whole = length-append (map (client_of f) f.clients) (clients_in fs) in
    elim (cases_Bool (p f)) [
      | inl here ↦ rw here (omega (arith, whole, length-append (map (client_of f) f.clients) (clients_in (filter p fs)), length-clients-filter p fs))
      | inr past ↦ rw past (omega (arith, whole, length-clients-filter p fs))
    ]

-- suppressing a framework in a role does not change its number of clients
length-suppressed : (client : Client) (suppressed : Bool) (f : FrameworkRow)
    → length (map (client_of (suppressed_in client suppressed f)) (suppressed_in client suppressed f).clients)
    ≡ length (map (client_of f) f.clients)
length-suppressed client suppressed f = elim (cases_Bool (same_text f.name client.framework)) [
  | inl here ↦ rw here (
      length-map (map (suppressed_at client suppressed) f.clients) (client_of (record f { clients = map (suppressed_at client suppressed) f.clients }))
      ∙ length-map f.clients (suppressed_at client suppressed)
      ∙ sym (length-map f.clients (client_of f)))
  | inr past ↦ rw past refl
]

length-clients-suppressed : (client : Client) (suppressed : Bool) (fs : List FrameworkRow)
    → length (clients_in (map (suppressed_in client suppressed) fs)) ≡ length (clients_in fs)
length-clients-suppressed client suppressed [] = refl
length-clients-suppressed client suppressed (f ∷ fs) =
    let g : FrameworkRow = suppressed_in client suppressed f in
    omega (
      arith,
      length-append (map (client_of g) g.clients) (clients_in (map (suppressed_in client suppressed) fs)),
      length-append (map (client_of f) f.clients) (clients_in fs),
      length-suppressed client suppressed f,
      length-clients-suppressed client suppressed fs,
    )

-- ---- after the event

module _ (limits : LimitNumbers) (rows : Rows) (few : AreFew limits rows) (numbered : IsNumberedByEvents rows) where
  agents_after : (event : Event) → refusal_of limits rows event ≡ None → length (effect rows event).agents ≤ limits.agents
  unfolding effect
  agents_after (AddAgent agent total) none =
      ltb-false limits.agents (length (with_agent rows agent total))
      (or_parts (nat_lt limits.agents (length (with_agent rows agent total))) _ (welcome_agent limits rows agent total none).few).0
  agents_after (RemoveAgent agent) none = omega (arith, few.agents, length-filter_le (λ a. not (same_text a.name agent)) rows.agents)
  agents_after (ActivateAgent agent) none = omega (arith, few.agents, length-map rows.agents (active_at agent true))
  agents_after (DeactivateAgent agent) none = omega (arith, few.agents, length-map rows.agents (active_at agent false))
  agents_after (SetAgent agent total) none = omega (arith, few.agents, length-map rows.agents (total_at agent (λ old. total)))
  agents_after (Reserve agent role resources) none =
      omega (arith, few.agents, length-map rows.agents (total_at agent (exchanged resources (relabel role resources))))
  agents_after (Unreserve agent role resources) none =
      omega (arith, few.agents, length-map rows.agents (total_at agent (exchanged (relabel role resources) resources)))
  agents_after event none = omega (arith, few.agents, ap (λ (r : Rows). length r.agents) (only_changed rows event))

  -- there are few enough frameworks and clients
  abbrev AreFewFrameworks : List FrameworkRow → Type 0
  AreFewFrameworks frameworks = (length frameworks ≤ limits.frameworks) × (length (clients_in frameworks) ≤ limits.clients)

  framework_fits : (framework : Text) (roles : List Path) → refusal_of limits rows (AddFramework framework roles) ≡ None
      → AreFewFrameworks (with_framework rows framework roles)
  framework_fits framework roles none =
      let f : FrameworkRow = record { name = framework; clients = map new_client (distinct roles) } in
      let many_roles = nat_lt limits.roles (length (distinct roles)) in
      let over_clients = nat_lt limits.clients (length (clients_of rows) + length (distinct roles)) in
      let many = or_parts (nat_lt limits.frameworks (length rows.frameworks + 1)) (many_roles || over_clients) (welcome_framework limits rows framework roles none).few in
      let room = ltb-false limits.clients (length (clients_of rows) + length (distinct roles)) (or_parts many_roles over_clients many.1).1 in (
        omega (arith, ltb-false limits.frameworks (length rows.frameworks + 1) many.0, length-append rows.frameworks (f ∷ [])),
        omega (arith, room, length-clients_of-framework_added rows f, length-map (distinct roles) new_client),
      )

  roles_fit : (framework : Text) (roles : List Path) → refusal_of limits rows (SetFramework framework roles) ≡ None
      → AreFewFrameworks (with_framework_roles rows framework roles)
  roles_fit framework roles none =
      let clients = length (clients_in (with_framework_roles rows framework roles)) in
      let over = or_parts (nat_lt limits.roles (length (distinct roles))) (nat_lt limits.clients clients)
      (no_case_of limits rows (SetFramework framework roles) none).1.1.1.0 in (
        omega (arith, few.frameworks, length-map rows.frameworks (roles_set_in framework roles)),
        ltb-false limits.clients clients over.1,
      )

  suppressed_fit : (client : Client) (suppressed : Bool) → AreFewFrameworks (with_suppression rows client suppressed)
  suppressed_fit client suppressed = (
    omega (arith, few.frameworks, length-map rows.frameworks (suppressed_in client suppressed)),
    omega (arith, few.clients, length-clients-suppressed client suppressed rows.frameworks),
  )

  frameworks_after : (event : Event) → refusal_of limits rows event ≡ None → AreFewFrameworks (effect rows event).frameworks
  unfolding effect cycle
  frameworks_after (AddFramework framework roles) none = framework_fits framework roles none
  frameworks_after (SetFramework framework roles) none = roles_fit framework roles none
  frameworks_after (RemoveFramework framework) none = (
    omega (arith, few.frameworks, length-filter_le (λ f. not (same_text f.name framework)) rows.frameworks),
    omega (arith, few.clients, length-clients-filter (λ f. not (same_text f.name framework)) rows.frameworks),
  )
  frameworks_after (Suppress framework role) none = suppressed_fit (record { role = role; framework = framework }) true
  frameworks_after (Revive framework role) none = suppressed_fit (record { role = role; framework = framework }) false
  frameworks_after (Cycle at) none =
      let same = turns-clients (at_timestamp rows at) (filter (λ a. a.active) rows.agents) in
      (omega (arith, few.frameworks, same.1), omega (arith, few.clients, ap length same.0))
  frameworks_after event none = (
    omega (arith, few.frameworks, ap (λ (r : Rows). length r.frameworks) (only_changed rows event)),
    omega (arith, few.clients, ap (λ (r : Rows). length (clients_of r)) (only_changed rows event)),
  )

  weights_after : (event : Event) → refusal_of limits rows event ≡ None → length (effect rows event).weights ≤ limits.weights
  unfolding effect
  weights_after (SetWeight role weight) none = few_weights limits rows role weight few.weights (welcome_weight limits rows role weight none).few
  weights_after event none = omega (arith, few.weights, ap (λ (r : Rows). length r.weights) (only_changed rows event))

  before : rows.next_offer ≤ 1 + rows.events * 2 ^ 24
  before = numbered

  numbered_after : (event : Event) → (effect rows event).next_offer ≤ 1 + (rows.events + 1) * 2 ^ 24
  unfolding effect cycle
  numbered_after (Cycle at) =
      let agents : List AgentRow = filter (λ a. a.active) rows.agents in
      let made = turns-next_offer (at_timestamp rows at) agents in
      let few_agents : length agents ≤ 4096 = omega (arith, length-filter_le (λ (a : AgentRow). a.active) rows.agents, few.agents, few.ceilings.agents.1) in
      let few_clients : length (clients_of rows) ≤ 4096 = omega (arith, few.clients, few.ceilings.clients.1) in
      let first : length agents * length (clients_of rows) ≤ 4096 * length (clients_of rows) = mul-le-mul_right (length (clients_of rows)) few_agents in
      omega (arith, made, before, first, few_clients)
  numbered_after event = omega (arith, before, ap (λ (r : Rows). r.next_offer) (only_changed rows event))

  pub countable_after : (event : Event) → refusal_of limits rows event ≡ None → IsCountable limits rows (effect rows event)
  countable_after event none = record {
    few = record {
      ceilings = few.ceilings;
      agents = agents_after event none;
      frameworks = (frameworks_after event none).0;
      clients = (frameworks_after event none).1;
      weights = weights_after event none;
      events = omega (arith, room_for limits rows event none);
    };
    numbered = numbered_after event;
    events = ap (λ (r : Rows). r.events) (only_changed rows event);
  }

-- ---- at all times

pub IsKept-opening : (limits : LimitNumbers) (rows : Rows) → rows ≡ opening → IsWithinCeilings limits → IsKept limits rows
IsKept-opening limits rows opens within = rw opens (record {
  consistent = IsConsistent-opening;
  few = record { ceilings = within; agents = omega arith; frameworks = omega arith; clients = omega arith; weights = omega arith; events = omega arith };
  numbered = omega arith;
})

-- expired filters are removed
pub IsKept-forgot : (limits : LimitNumbers) (rows new : Rows) → IsKept limits rows
    → new ≡ record rows { filters = new.filters } → IsConsistent new → IsKept limits new
IsKept-forgot limits rows new kept same right = record {
  consistent = right;
  few = rw same (record {
    ceilings = kept.few.ceilings;
    agents = kept.few.agents;
    frameworks = kept.few.frameworks;
    clients = kept.few.clients;
    weights = kept.few.weights;
    events = kept.few.events;
  });
  numbered = rw same kept.numbered;
}

module _ (limits : LimitNumbers) (rows : Rows) (kept : IsKept limits rows) where
  pub few_agents_kept : length rows.agents ≤ 4096
  few_agents_kept = omega (arith, kept.few.agents, kept.few.ceilings.agents.1)

  pub few_offers_kept : rows.next_offer ≤ 2 ^ 56
  few_offers_kept =
      let events : rows.events ≤ 4294967295 = omega (arith, kept.few.events, kept.few.ceilings.events.1) in
      let numbered : rows.next_offer ≤ 1 + rows.events * 2 ^ 24 = kept.numbered in
      omega (arith, events, numbered)

  -- offer numbers are below the bound for every run
  pub numbers_bounded : AllByRecursion (λ o. o.number ≤ 2 ^ 56) rows.offers
  numbers_bounded = numbers_within rows.offers rows.next_offer (2 ^ 56) kept.consistent.numbered (omega (arith, few_offers_kept))

-- every filter ends before 2^63, so each one in force does
pub filters_bounded : (rows : Rows) → IsConsistent rows → AllByRecursion (λ f. f.until < 2 ^ 63) (live_rows rows).filters
filters_bounded rows consistent =
    let Ends : FilterRow → Type 0 = λ f. f.until < 2 ^ 63 in
    each_filter Ends (is_in_force rows.clock) rows.filters
    (each_from (IsFilter rows.agents rows.frameworks) Ends rows.filters (λ f is. is.until) consistent.filters)

-- the current state of a consistent state is consistent
pub consistent-live : (rows : Rows) → IsConsistent rows → IsConsistent (live_rows rows)
consistent-live rows consistent = IsConsistent-filters_kept rows (is_in_force rows.clock) consistent

-- a consistent state stays consistent when the clock moves
pub consistent-clock : (rows : Rows) (clock : ℕ) → IsConsistent rows → clock ≤ LATEST_TIMESTAMP → IsConsistent (record rows { clock = clock })
consistent-clock rows clock right early = record {
  agents = right.agents;
  frameworks = right.frameworks;
  holdings = right.holdings;
  covered = right.covered;
  tasks = right.tasks;
  weights = right.weights;
  limits = right.limits;
  filters = right.filters;
  early = early;
  counted = right.counted;
  numbered = right.numbered;
}

-- ---- what agents have

-- the sum over all agents is small
pub sound_total : (limits : LimitNumbers) (rows : Rows) → IsKept limits rows → (label : Text)
    → amount_of (cluster_total rows.agents) label < 2 ^ 52
sound_total limits rows kept label = small_total rows.agents label kept.consistent.agents.each (few_agents_kept limits rows kept)

-- one more agent fits if the event is accepted
pub few_agents : (limits : LimitNumbers) (rows : Rows) (agent : Text) (total : List Resource) → AreFew limits rows → refusal_of limits rows (AddAgent agent total) ≡ None
    → length rows.agents < 4096
few_agents limits rows agent total few none =
    let many = or_parts (nat_lt limits.agents (length (with_agent rows agent total))) (nat_lt limits.scalar_names (length (cluster_total (with_agent rows agent total)))) (welcome_agent limits rows agent total none).few in
    let long : length (with_agent rows agent total) ≤ limits.agents = ltb-false limits.agents (length (with_agent rows agent total)) many.0 in
    omega (arith, long, few.ceilings.agents.1, length-append rows.agents (record { name = agent; total = total; active = true } ∷ []))

-- what the other agents have is small
pub small_others : (rows : Rows) (agent label : Text) → IsConsistent rows → length rows.agents ≤ 4096
    → amount_of (cluster_total (filter (λ a. not (same_text a.name agent)) rows.agents)) label < 2 ^ 52
small_others rows agent label consistent few =
    let other : AgentRow → Bool = λ a. not (same_text a.name agent) in
    small_total (filter other rows.agents) label (each_filter IsAgent other rows.agents consistent.agents.each)
    (omega (arith, few, length-filter_le other rows.agents))
