-- Statements about offers, tasks and filters from beginning to end, and about what each event leaves unchanged.
use Rattle.std.specs.Prelude.{◌≡◌, ℕ, ◌+◌, ◌≤◌, ◌==◌, max, Bool, true, false, not, ◌&&◌, ◌||◌, List, [], ◌∷◌, ◌++◌, length, map, filter, count_by, drop, flat_map, slice_get, Some}
use Rattle.std.specs.List.{list_all, list_any}
use Rattle.drf_role.specs.Text.{Text, same_text}
use Rattle.drf_role.specs.Path.{Path, same_path}
use Rattle.drf_bundle.specs.Bundle.{join}
use Rattle.drf_bundle.specs.declared.resource.Resource.{Resource}
use Rattle.drf_rows.specs.LimitNumbers.{LimitNumbers}
use Rattle.drf_rows.specs.Client.{Client}
use Rattle.drf_rows.specs.Holdings.{holding_of_offer}
use Rattle.drf_rows.specs.Held.{client_of}
use Rattle.drf_rows.specs.Filters.{is_of_client, is_on_agent, is_held_back}
use Rattle.drf_rows.specs.Consistent.{IsConsistent}
use Rattle.drf_rows.specs.Cycle.{free_of, new_offer, with_offer, cycle}
use Rattle.drf_rows.specs.Releases.{is_task}
use Rattle.drf_rows.specs.Members.{has_agent, has_framework}
use Rattle.drf_rows.specs.Offers.{offer_at}
use Rattle.drf_rows.specs.Tasks.{Start}
use Rattle.drf_rows.specs.Step.{effect, new_offers, rows_after, rows_after_all, replies_to}
use Rattle.drf_rows.specs.declared.rows.AgentRow.{AgentRow}
use Rattle.drf_rows.specs.declared.rows.ClientRow.{ClientRow}
use Rattle.drf_rows.specs.declared.rows.FrameworkRow.{FrameworkRow}
use Rattle.drf_rows.specs.declared.rows.FilterRow.{FilterRow}
use Rattle.drf_rows.specs.declared.rows.OfferRow.{OfferRow}
use Rattle.drf_rows.specs.declared.rows.TaskRow.{TaskRow}
use Rattle.drf_rows.specs.declared.rows.Rows.{Rows}
use Rattle.drf_rows.specs.declared.event.Accept as accepting
use Rattle.drf_rows.specs.declared.event.Event.{Event}
use Rattle.drf_rows.specs.declared.event.Event.TheVariants.{AddAgent, RemoveAgent, ActivateAgent, DeactivateAgent, SetAgent, AddFramework, SetFramework, RemoveFramework, Accept, Decline, Rescind, Finish, Suppress, Revive, Reserve, Unreserve, Cycle}
use Rattle.drf_rows.specs.declared.reply.OfferLine.{OfferLine}
use Rattle.drf_rows.specs.declared.reply.Reply.{Reply}
use Rattle.drf_rows.specs.declared.reply.Reply.TheVariants.{Offers}

-- an offer that is declined at once without a filter leaves the state as it was, except for the clock, the counts and
-- the next offer number
abbrev pub DeclinedAtOnceIsUndone : Type 0
DeclinedAtOnceIsUndone =
    (rows : Rows) (agent : AgentRow) (client : Client) (bundle : List Resource) (at : ℕ)
    → IsConsistent rows
    → let o : OfferRow = new_offer rows agent client bundle in
    effect (with_offer rows o) (Decline (record { framework = client.framework; offer = o.number; at = at; refuse_ms = 0 }))
    ≡ record rows { frameworks = (with_offer rows o).frameworks; next_offer = rows.next_offer + 1; clock = max rows.clock at }

-- the task is removed, nothing else changes, and exactly what it used becomes free on its agent
pub record GoesAlone (rows : Rows) (before later : List TaskRow) (t : TaskRow) (agent : AgentRow) (after : Rows) : Type 0 where
  pub only_task : after ≡ record rows { tasks = before ++ later }
  pub given_back : same_text t.agent agent.name ≡ true → join (free_of rows agent) t.bundle ≡ Some (free_of after agent)
  pub kept_elsewhere : same_text t.agent agent.name ≡ false → free_of after agent ≡ free_of rows agent

-- this is so for a task that finishes
abbrev pub FinishedIsGivenBack : Type 0
FinishedIsGivenBack =
    (rows : Rows) (before later : List TaskRow) (t : TaskRow) (agent : AgentRow) (place : ℕ)
    → IsConsistent rows
    → rows.tasks ≡ before ++ t ∷ later
    → slice_get rows.agents place ≡ Some agent
    → GoesAlone rows before later t agent (effect rows (Finish t.framework t.name))

-- the row of a started task: it belongs to the client of the offer, runs on its agent, and uses its part
abbrev pub task_started : OfferRow → Start → TaskRow
task_started o s = record { name = s.0; agent = o.agent; framework = o.framework; role = o.role; bundle = s.1 }

-- the filters that are added after the old ones
abbrev pub filters_added : Rows → Rows → List FilterRow
filters_added rows after = drop (length rows.filters) after.filters

-- the offer is removed, and its tasks are added after those that run, in order. The clock moves, at most one filter of
-- the client on the agent is added, and nothing else changes
pub record LeavesItsTasks (rows : Rows) (a : accepting.Accept) (o : OfferRow) (after : Rows) : Type 0 where
  pub nothing_else : after
      ≡ record rows {
        offers = filter (λ p. not (p.number == a.offer)) rows.offers;
        tasks = rows.tasks ++ map (task_started o) a.tasks;
        filters = rows.filters ++ filters_added rows after;
        clock = max rows.clock a.at;
      }
  pub at_most_one_filter : length (filters_added rows after) ≤ 1
  pub of_the_client_there : list_all (λ f. is_of_client (holding_of_offer o).client f && is_on_agent o.agent f) (filters_added rows after) ≡ true

-- this is so for an offer that is accepted
abbrev pub AcceptedStartsTasks : Type 0
AcceptedStartsTasks =
    (rows : Rows) (a : accepting.Accept) (o : OfferRow)
    → offer_at rows a.offer ≡ Some o
    → LeavesItsTasks rows a o (effect rows (Accept a))

-- no filter stays when its agent or its framework is removed, or when its client revives
pub record NoFilterOutlives (rows : Rows) (agent framework : Text) (client : Client) : Type 0 where
  pub agent_removed : list_any (is_on_agent agent) (effect rows (RemoveAgent agent)).filters ≡ false
  pub framework_removed : list_any (λ f. same_text f.framework framework) (effect rows (RemoveFramework framework)).filters ≡ false
  pub client_revived : list_any (is_of_client client) (effect rows (Revive client.framework client.role)).filters ≡ false

abbrev pub FiltersGoWithTheirOwner : Type 0
FiltersGoWithTheirOwner = (rows : Rows) (agent framework : Text) (client : Client) → NoFilterOutlives rows agent framework client

-- all other filters stay: those on other agents, of other frameworks, and of other clients
pub record OnlyOwnFiltersGo (rows : Rows) (agent framework : Text) (client : Client) : Type 0 where
  pub agent_removed : (effect rows (RemoveAgent agent)).filters ≡ filter (λ f. not (same_text f.agent agent)) rows.filters
  pub framework_removed :
      (effect rows (RemoveFramework framework)).filters ≡ filter (λ f. not (same_text f.framework framework)) rows.filters
  pub client_revived : (effect rows (Revive client.framework client.role)).filters
      ≡ filter (λ f. not (same_path f.role client.role && same_text f.framework client.framework)) rows.filters

abbrev pub OtherFiltersStay : Type 0
OtherFiltersStay = (rows : Rows) (agent framework : Text) (client : Client) → OnlyOwnFiltersGo rows agent framework client

abbrev pub is_same_client : Client → Client → Bool
is_same_client client other = same_path other.role client.role && same_text other.framework client.framework

-- each row of the client is suppressed
abbrev pub is_suppressed : Rows → Client → Bool
is_suppressed rows client =
    list_all (λ f. list_all (λ c. not (is_same_client client (client_of f c)) || c.suppressed) f.clients) rows.frameworks

-- no row of the client is suppressed
abbrev pub is_served : Rows → Client → Bool
is_served rows client =
    list_all (λ f. list_all (λ c. not (is_same_client client (client_of f c)) || not c.suppressed) f.clients) rows.frameworks

-- a client's row with suppression set, to compare everything else
abbrev pub quiet_row : ClientRow → ClientRow
quiet_row c = record c { suppressed = true }

abbrev pub quiet_framework : FrameworkRow → FrameworkRow
quiet_framework f = record f { clients = map quiet_row f.clients }

abbrev pub all_suppressed : Rows → List FrameworkRow
all_suppressed rows = map quiet_framework rows.frameworks

-- the client is suppressed, the suppression of others stays, and nothing else changes
pub record SuppressesOnly (rows : Rows) (client : Client) (after : Rows) : Type 0 where
  pub client_suppressed : is_suppressed after client ≡ true
  pub others_as_before : (other : Client) → is_same_client other client ≡ false → is_suppressed after other ≡ is_suppressed rows other
  pub nothing_else_there : all_suppressed after ≡ all_suppressed rows
  pub only_frameworks : after ≡ record rows { frameworks = after.frameworks }

-- the client is not suppressed, the suppression of others stays, and nothing else changes except filters
pub record RevivesOnly (rows : Rows) (client : Client) (after : Rows) : Type 0 where
  pub client_served : is_served after client ≡ true
  pub others_as_before : (other : Client) → is_same_client other client ≡ false → is_suppressed after other ≡ is_suppressed rows other
  pub nothing_else_there : all_suppressed after ≡ all_suppressed rows
  pub only_frameworks_and_filters : after ≡ record rows { frameworks = after.frameworks; filters = after.filters }

-- an event suppresses or revives its client and no other
abbrev pub SuppressionIsItsClients : Type 0
SuppressionIsItsClients =
    (rows : Rows) (client : Client)
    → SuppressesOnly rows client (effect rows (Suppress client.framework client.role))
    × RevivesOnly rows client (effect rows (Revive client.framework client.role))

-- no cycle offers anything to a suppressed client
abbrev pub SuppressedIsNotOffered : Type 0
SuppressedIsNotOffered =
    (rows : Rows) (client : Client) (at : ℕ)
    → is_suppressed rows client ≡ true
    → list_any (λ o. is_same_client client (holding_of_offer o).client) (new_offers rows (cycle rows at)) ≡ false

-- no cycle offers a client what a filter covers that is then in force
abbrev pub FilteredIsNotOffered : Type 0
FilteredIsNotOffered =
    (rows : Rows) (at : ℕ)
    → list_any (λ o. is_held_back rows.filters (max rows.clock at) (holding_of_offer o).client o.agent o.bundle) (new_offers rows (cycle rows at))
    ≡ false

-- the numbers are consecutive: from `first` to the one before `next`
abbrev pub CountUp : ℕ → List ℕ → ℕ → Type 0
CountUp first [] next = next ≡ first
CountUp first (n ∷ ns) next = (n ≡ first) × CountUp (first + 1) ns next

-- the offers in a reply
abbrev pub lines_reported : Reply → List OfferLine
lines_reported (Offers lines) = lines
lines_reported other = []

-- no number is given to two offers: those of a run have consecutive numbers, from the next offer number on
abbrev pub NumbersAreNew : Type 0
NumbersAreNew =
    (limits : LimitNumbers) (rows : Rows) (events : List Event)
    → CountUp rows.next_offer
    (map (λ line. line.number) (flat_map lines_reported (replies_to limits rows events)))
    (rows_after_all limits rows events).next_offer

-- the event registers, removes, activates or deactivates the agent, or changes its total
abbrev pub is_about_agent : Event → Text → Bool
is_about_agent (AddAgent agent total) name = same_text name agent
is_about_agent (RemoveAgent agent) name = same_text name agent
is_about_agent (ActivateAgent agent) name = same_text name agent
is_about_agent (DeactivateAgent agent) name = same_text name agent
is_about_agent (SetAgent agent total) name = same_text name agent
is_about_agent (Reserve agent role resources) name = same_text name agent
is_about_agent (Unreserve agent role resources) name = same_text name agent
is_about_agent event name = false

-- the event registers or removes the framework, suppresses or revives it in a role, or changes its roles
abbrev pub is_about_framework : Event → Text → Bool
is_about_framework (AddFramework framework roles) name = same_text name framework
is_about_framework (SetFramework framework roles) name = same_text name framework
is_about_framework (RemoveFramework framework) name = same_text name framework
is_about_framework (Suppress framework role) name = same_text name framework
is_about_framework (Revive framework role) name = same_text name framework
is_about_framework event name = false

-- the rows of all other agents
abbrev pub other_agents : Event → List AgentRow → List AgentRow
other_agents event agents = filter (λ a. not (is_about_agent event a.name)) agents

abbrev pub other_frameworks : Event → List FrameworkRow → List FrameworkRow
other_frameworks event frameworks = filter (λ f. not (is_about_framework event f.name)) frameworks

abbrev pub is_cycle : Event → Bool
is_cycle (Cycle at) = true
is_cycle event = false

-- the agents that an event is not about stay as they are, in order
abbrev pub OtherAgentsStay : Type 0
OtherAgentsStay =
    (limits : LimitNumbers) (rows : Rows) (event : Event)
    → other_agents event (rows_after limits rows event).agents ≡ other_agents event rows.agents

-- so do the frameworks, except that a cycle counts its offers
abbrev pub OtherFrameworksStay : Type 0
OtherFrameworksStay =
    (limits : LimitNumbers) (rows : Rows) (event : Event)
    → is_cycle event ≡ false
    → other_frameworks event (rows_after limits rows event).frameworks ≡ other_frameworks event rows.frameworks

-- the offers that an event does not end
abbrev pub other_offers : Event → List OfferRow → List OfferRow
other_offers (RemoveAgent agent) offers = filter (λ o. not (same_text o.agent agent)) offers
other_offers (DeactivateAgent agent) offers = filter (λ o. not (same_text o.agent agent)) offers
other_offers (RemoveFramework framework) offers = filter (λ o. not (same_text o.framework framework)) offers
other_offers (Accept a) offers = filter (λ o. not (o.number == a.offer)) offers
other_offers (Decline d) offers = filter (λ o. not (o.number == d.offer)) offers
other_offers (Rescind offer) offers = filter (λ o. not (o.number == offer)) offers
other_offers event offers = offers

-- the tasks that an event does not end
abbrev pub other_tasks : Event → List TaskRow → List TaskRow
other_tasks (RemoveAgent agent) tasks = filter (λ t. not (same_text t.agent agent)) tasks
other_tasks (RemoveFramework framework) tasks = filter (λ t. not (same_text t.framework framework)) tasks
other_tasks (Finish framework task) tasks = filter (λ t. not (is_task framework task t)) tasks
other_tasks event tasks = tasks

abbrev pub is_accept : Event → Bool
is_accept (Accept a) = true
is_accept event = false

-- what the event does not end stays as it is, in order; a cycle adds offers, and an accept adds tasks
pub record OthersStay (event : Event) (rows after : Rows) : Type 0 where
  pub offers : is_cycle event ≡ false → other_offers event after.offers ≡ other_offers event rows.offers
  pub tasks : is_accept event ≡ false → other_tasks event after.tasks ≡ other_tasks event rows.tasks

abbrev pub OtherHoldingsStay : Type 0
OtherHoldingsStay = (limits : LimitNumbers) (rows : Rows) (event : Event) → OthersStay event rows (rows_after limits rows event)

-- what the event ends is removed, and nothing else
pub record OnlyOthersAreLeft (event : Event) (rows after : Rows) : Type 0 where
  pub offers : is_cycle event ≡ false → after.offers ≡ other_offers event rows.offers
  pub tasks : is_accept event ≡ false → after.tasks ≡ other_tasks event rows.tasks

abbrev pub EndedIsGone : Type 0
EndedIsGone = (rows : Rows) (event : Event) → OnlyOthersAreLeft event rows (effect rows event)

-- an agent or a framework that is removed is no longer registered
abbrev pub RemovedIsGone : Type 0
RemovedIsGone =
    (rows : Rows) (name : Text)
    → (has_agent (effect rows (RemoveAgent name)) name ≡ false)
    × (has_framework (effect rows (RemoveFramework name)) name ≡ false)

-- an agent's row with `active` set, to compare everything else
abbrev pub active_row : AgentRow → AgentRow
active_row a = record a { active = true }

abbrev pub all_active : Rows → List AgentRow
all_active rows = map active_row rows.agents

-- the agent is active, and nothing else changes
pub record ActivatesOnly (rows : Rows) (name : Text) (after : Rows) : Type 0 where
  pub agent_active : list_all (λ a. not (same_text a.name name) || a.active) after.agents ≡ true
  pub nothing_else_there : all_active after ≡ all_active rows
  pub only_agents : after ≡ record rows { agents = after.agents }

-- the agent is inactive, and nothing else changes except offers
pub record DeactivatesOnly (rows : Rows) (name : Text) (after : Rows) : Type 0 where
  pub agent_inactive : list_all (λ a. not (same_text a.name name) || not a.active) after.agents ≡ true
  pub nothing_else_there : all_active after ≡ all_active rows
  pub only_agents_and_offers : after ≡ record rows { agents = after.agents; offers = after.offers }

-- this is so for activating and deactivating an agent
abbrev pub ActivityIsItsAgents : Type 0
ActivityIsItsAgents =
    (rows : Rows) (name : Text)
    → ActivatesOnly rows name (effect rows (ActivateAgent name))
    × DeactivatesOnly rows name (effect rows (DeactivateAgent name))

-- the offer is made to the framework in that role
abbrev pub is_made_to : Text → Path → OfferRow → Bool
is_made_to framework role o = same_text framework o.framework && same_path role o.role

-- the clients' rows, with each count raised by the number of new offers to the client
abbrev pub raised_row : List OfferRow → Text → ClientRow → ClientRow
raised_row made framework c = record c { count = c.count + count_by (is_made_to framework c.role) made }

abbrev pub with_counts : List OfferRow → FrameworkRow → FrameworkRow
with_counts made f = record f { clients = map (raised_row made f.name) f.clients }

-- the clock moves, offers are added and counted for their clients, and nothing else changes
pub record OnlyOffers (rows : Rows) (at : ℕ) (after : Rows) : Type 0 where
  pub nothing_else : after
      ≡ record rows {
        frameworks = after.frameworks;
        offers = after.offers;
        next_offer = after.next_offer;
        clock = max rows.clock at;
      }
  pub offers : after.offers ≡ rows.offers ++ new_offers rows after
  pub counts : after.frameworks ≡ map (with_counts (new_offers rows after)) rows.frameworks

abbrev pub CycleOnlyOffers : Type 0
CycleOnlyOffers = (rows : Rows) (at : ℕ) → OnlyOffers rows at (cycle rows at)
