-- Which tables of the state each event can change, and properties that every offer of a cycle keeps.
use Rattle.std.specs.Prelude.{◌≡◌, ℕ, ◌+◌, Bool, true, false, List, [], ◌∷◌, ◌++◌, map, filter, Option, Some, None, if◌then◌else◌}
use Rattle.std.specs.List.{AllByRecursion}
use Rattle.std.specs.Option.{option_map_or}
use Rattle.std.proofs.Common.{refl, sym, ap, ◌∙◌}
use Rattle.drf_bundle.proofs.ListLaws.{filter_each, each_true}
use Rattle.drf_bundle.specs.declared.resource.Resource.{Resource}
use Rattle.drf_rows.specs.LimitNumbers.{LimitNumbers}
use Rattle.drf_rows.specs.Client.{Client}
use Rattle.drf_rows.specs.Quota.{entitlement}
use Rattle.drf_rows.specs.Holdings.{holding_of_offer}
use Rattle.drf_rows.specs.Cycle.{free_of, is_grantable, count_offer, new_offer, with_offer, tried, all_tried, turn, turn_order, turns, at_timestamp, cycle}
use Rattle.drf_rows.specs.Offers.{offer_at, offer_accepted, offer_declined}
use Rattle.drf_rows.specs.Step.{refusal_of, effect, rows_after}
use Rattle.drf_rows.specs.declared.event.Event.{Event}
use Rattle.drf_rows.specs.declared.event.Event.TheVariants.{AddAgent, RemoveAgent, ActivateAgent, DeactivateAgent, SetAgent, AddFramework, SetFramework, RemoveFramework, Accept, Decline, Rescind, Finish, Suppress, Revive, Reserve, Unreserve, SetWeight, SetLimit, Cycle, Report}
use Rattle.drf_rows.specs.declared.reply.Refusal.{Refusal}
use Rattle.drf_rows.specs.declared.rows.AgentRow.{AgentRow}
use Rattle.drf_rows.specs.declared.rows.OfferRow.{OfferRow}
use Rattle.drf_rows.specs.declared.rows.Rows.{Rows}

-- ---- the tables

-- a set of tables, with the clock and the next offer number
pub record Tables : Type 0 where
  pub agents : Bool
  pub frameworks : Bool
  pub offers : Bool
  pub tasks : Bool
  pub weights : Bool
  pub limits : Bool
  pub filters : Bool
  pub clock : Bool
  pub next_offer : Bool

abbrev pub no_table : Tables
no_table = record {
  agents = false;
  frameworks = false;
  offers = false;
  tasks = false;
  weights = false;
  limits = false;
  filters = false;
  clock = false;
  next_offer = false;
}

-- the tables that a new offer changes
abbrev pub by_offer : Tables
by_offer = record no_table { frameworks = true; offers = true; next_offer = true }

-- the tables that an event can change
abbrev pub changed : Event → Tables
changed (AddAgent agent total) = record no_table { agents = true }
changed (RemoveAgent agent) = record no_table { agents = true; offers = true; tasks = true; filters = true }
changed (ActivateAgent agent) = record no_table { agents = true }
changed (DeactivateAgent agent) = record no_table { agents = true; offers = true }
changed (SetAgent agent total) = record no_table { agents = true }
changed (AddFramework framework roles) = record no_table { frameworks = true }
changed (SetFramework framework roles) = record no_table { frameworks = true; filters = true }
changed (RemoveFramework framework) = record no_table { frameworks = true; offers = true; tasks = true; filters = true }
changed (Accept a) = record no_table { offers = true; tasks = true; filters = true; clock = true }
changed (Decline d) = record no_table { offers = true; filters = true; clock = true }
changed (Rescind offer) = record no_table { offers = true }
changed (Finish framework task) = record no_table { tasks = true }
changed (Suppress framework role) = record no_table { frameworks = true }
changed (Revive framework role) = record no_table { frameworks = true; filters = true }
changed (Reserve agent role resources) = record no_table { agents = true }
changed (Unreserve agent role resources) = record no_table { agents = true }
changed (SetWeight role weight) = record no_table { weights = true }
changed (SetLimit role limit) = record no_table { limits = true }
changed (Cycle at) = record by_offer { clock = true }
changed Report = no_table

-- the state `rows`, with these tables taken from `after`
abbrev pub with_tables : Tables → Rows → Rows → Rows
with_tables t rows after = record {
  agents = if t.agents then after.agents else rows.agents;
  frameworks = if t.frameworks then after.frameworks else rows.frameworks;
  offers = if t.offers then after.offers else rows.offers;
  tasks = if t.tasks then after.tasks else rows.tasks;
  weights = if t.weights then after.weights else rows.weights;
  limits = if t.limits then after.limits else rows.limits;
  filters = if t.filters then after.filters else rows.filters;
  clock = if t.clock then after.clock else rows.clock;
  next_offer = if t.next_offer then after.next_offer else rows.next_offer;
  events = rows.events;
}

-- ---- from one offer of a cycle to the next

-- the entitlement of a client to the resources free on an agent
abbrev pub its_part : Rows → AgentRow → Client → List Resource
its_part rows agent client = entitlement rows (free_of rows agent) client

-- a property that is kept by each offer to a client that is tried, on an agent of some kind
module _ (P : Rows → Type 0) (OfAgent : AgentRow → Type 0) (OfClient : Client → Type 0)
    (served : (rows : Rows) → P rows → AllByRecursion OfClient (turn_order rows))
    (each : (rows : Rows) (agent : AgentRow) (client : Client) → OfAgent agent → OfClient client
    → is_grantable rows agent client (its_part rows agent client) ≡ true → P rows
    → P (with_offer rows (new_offer rows agent client (its_part rows agent client)))) where
  pub tried_keeps : (rows : Rows) (agent : AgentRow) (client : Client) → OfAgent agent → OfClient client → P rows → P (tried rows agent client)
  tried_keeps rows agent client right known kept = by (is_grantable rows agent client (its_part rows agent client)) refl
    where
      by : (granted : Bool) → is_grantable rows agent client (its_part rows agent client) ≡ granted
          → P (option_map_or (λ bundle. with_offer rows (new_offer rows agent client bundle))
          (if granted then Some (its_part rows agent client) else None) rows)
      by true is = each rows agent client right known is kept
      by false not_so = kept

  pub all_tried_keeps : (rows : Rows) (agent : AgentRow) (clients : List Client) → OfAgent agent → AllByRecursion OfClient clients → P rows
      → P (all_tried rows agent clients)
  all_tried_keeps rows agent [] right known kept = kept
  all_tried_keeps rows agent (client ∷ clients) right known kept =
      all_tried_keeps (tried rows agent client) agent clients right known.1 (tried_keeps rows agent client right known.0 kept)

  pub turn_keeps : (rows : Rows) (agent : AgentRow) → OfAgent agent → P rows → P (turn rows agent)
  unfolding turn
  turn_keeps rows agent right kept = all_tried_keeps rows agent (turn_order rows) right (served rows kept) kept

  pub turns_keep : (rows : Rows) (agents : List AgentRow) → AllByRecursion OfAgent agents → P rows → P (turns rows agents)
  turns_keep rows [] right kept = kept
  turns_keep rows (agent ∷ agents) right kept = turns_keep (turn rows agent) agents right.1 (turn_keeps rows agent right.0 kept)

-- a property of everything
abbrev pub Any : {X : Type 0} → X → Type 0
Any x = ◌≡◌ {A = Bool} true true

-- a property that is kept by every offer
module _ (P : Rows → Type 0) (each : (rows : Rows) (offer : OfferRow) → P rows → P (with_offer rows offer)) where
  pub any_all_tried : (rows : Rows) (agent : AgentRow) (clients : List Client) → P rows → P (all_tried rows agent clients)
  any_all_tried rows agent clients =
      all_tried_keeps P Any Any (λ rows kept. each_true (turn_order rows))
      (λ rows agent client right known is kept. each rows (new_offer rows agent client (its_part rows agent client)) kept)
      rows agent clients refl (each_true clients)

  pub any_turns : (rows : Rows) (agents : List AgentRow) → P rows → P (turns rows agents)
  any_turns rows agents =
      turns_keep P Any Any (λ rows kept. each_true (turn_order rows))
      (λ rows agent client right known is kept. each rows (new_offer rows agent client (its_part rows agent client)) kept)
      rows agents (each_true agents)

-- ---- other tables stay

module _ (start : Rows) where
  abbrev OnlyOffered : Rows → Type 0
  OnlyOffered after = after ≡ with_tables by_offer start after

  only_one : (rows : Rows) (offer : OfferRow) → OnlyOffered rows → OnlyOffered (with_offer rows offer)
  unfolding with_offer
  only_one rows offer only = λ i. record (only i) {
    frameworks = map (count_offer (holding_of_offer offer).client) rows.frameworks;
    offers = rows.offers ++ offer ∷ [];
    next_offer = rows.next_offer + 1;
  }

  pub all_tried_only : (agent : AgentRow) (clients : List Client) → OnlyOffered (all_tried start agent clients)
  all_tried_only agent clients = any_all_tried OnlyOffered only_one start agent clients refl

  pub turn_only : (agent : AgentRow) → OnlyOffered (turn start agent)
  unfolding turn
  turn_only agent = all_tried_only agent (turn_order start)

  pub turns_only : (agents : List AgentRow) → OnlyOffered (turns start agents)
  turns_only agents = any_turns OnlyOffered only_one start agents refl

-- a cycle moves the clock and makes offers, and changes nothing else
pub cycle_only : (rows : Rows) (at : ℕ) → cycle rows at ≡ with_tables by_offer (at_timestamp rows at) (cycle rows at)
unfolding cycle
cycle_only rows at = turns_only (at_timestamp rows at) (filter (λ a. a.active) rows.agents)

-- a filter that every element passes leaves the list as it is
pub all_stay : {X : Type 0} (xs : List X) → filter (λ x. true) xs ≡ xs
all_stay xs = filter_each (λ x. true) xs (each_true xs)

-- an event changes only the tables that it can change
pub only_changed : (rows : Rows) (event : Event) → effect rows event ≡ with_tables (changed event) rows (effect rows event)
unfolding effect
only_changed rows (DeactivateAgent agent) = λ i. record (effect rows (DeactivateAgent agent)) { tasks = all_stay rows.tasks i }
only_changed rows (Accept a) = by (offer_at rows a.offer)
  where
    by : (found : Option OfferRow)
        → let after : Rows = option_map_or (λ o. offer_accepted (at_timestamp rows a.at) o a.tasks a.refuse_ms) found rows in
        after ≡ with_tables (changed (Accept a)) rows after
    by None = refl
    by (Some o) = refl
only_changed rows (Decline d) = by (offer_at rows d.offer)
  where
    by : (found : Option OfferRow)
        → let after : Rows = option_map_or (λ o. offer_declined (at_timestamp rows d.at) o d.refuse_ms) found rows in
        after ≡ with_tables (changed (Decline d)) rows after
    by None = refl
    by (Some o) = λ i. record (offer_declined (at_timestamp rows d.at) o d.refuse_ms) { tasks = all_stay rows.tasks i }
only_changed rows (Rescind offer) = λ i. record (effect rows (Rescind offer)) { tasks = all_stay rows.tasks i }
only_changed rows (Finish framework task) = λ i. record (effect rows (Finish framework task)) { offers = all_stay rows.offers i }
only_changed rows (Cycle at) =
    let only = cycle_only rows at in
    only ∙ (λ i. record (with_tables (changed (Cycle at)) rows (cycle rows at)) { clock = sym (ap (λ (r : Rows). r.clock) only) i })
only_changed rows event = refl

-- a step keeps a property if the effect of the event, once it is counted, keeps it
pub step_keeps : (P : Rows → Type 0) (limits : LimitNumbers) (rows : Rows) (event : Event)
    → P rows → P (record (effect rows event) { events = rows.events + 1 }) → P (rows_after limits rows event)
unfolding rows_after
step_keeps P limits rows event before after = by (refusal_of limits rows event)
  where
    by : (refusal : Option Refusal) → P (option_map_or (λ refusal. rows) refusal (record (effect rows event) { events = rows.events + 1 }))
    by None = after
    by (Some refusal) = before
