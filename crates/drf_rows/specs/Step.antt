-- The step of the allocator: whether an event is refused, its effect and its reply; and runs over a list of events.
use Rattle.std.specs.Prelude.{◌+◌, Bool, true, false, not, ◌&&◌, ◌||◌, List, [], ◌∷◌, length, map, find, drop, Option, nat_lt, nat_le}
use Rattle.std.specs.List.{list_any}
use Rattle.std.specs.Option.{option_map, option_map_or}
use Rattle.drf_role.specs.Text.{Text}
use Rattle.drf_role.specs.Path.{Path}
use Rattle.drf_bundle.specs.Bundle.{quantities_of, is_default, is_unreserved, relabel}
use Rattle.drf_bundle.specs.declared.quantities.Entry.{Entry}
use Rattle.drf_bundle.specs.declared.resource.Resource.{Resource}
use Rattle.drf_rows.specs.LimitNumbers.{LimitNumbers}
use Rattle.drf_rows.specs.Held.{cluster_total, clients_of, is_registered}
use Rattle.drf_rows.specs.Members.{has_agent, has_framework, distinct, with_agent, with_framework, with_activity, with_suppression, agent_deactivated, revived, agent_removed, framework_removed}
use Rattle.drf_rows.specs.Roles.{framework_set, is_role_in_use, too_many_roles}
use Rattle.drf_rows.specs.Offers.{offer_at, has_offer, belongs_to_another, exceeds_offer, has_task, is_task_known, is_empty, filters_all, filters_rest, are_many_filters, offer_accepted, offer_declined}
use Rattle.drf_rows.specs.Releases.{without_ended, one_offer, one_task}
use Rattle.drf_rows.specs.Cycle.{at_timestamp, cycle}
use Rattle.drf_rows.specs.Filters.{in_force}
use Rattle.drf_rows.specs.Report.{report_of}
use Rattle.drf_rows.specs.Tasks.{uses}
use Rattle.drf_rows.specs.Totals.{with_reserved, with_unreserved, with_other_total, is_not_free, is_below_held}
use Rattle.drf_rows.specs.Quota.{has_limit, limits_with, admits}
use Rattle.drf_rows.specs.Weights.{is_weight, too_many_weights, weights_with}
use Rattle.drf_rows.specs.declared.limits.TheConstants.{LATEST_TIMESTAMP, LARGEST_AMOUNT}
use Rattle.drf_rows.specs.declared.rows.AgentRow.{AgentRow}
use Rattle.drf_rows.specs.declared.rows.OfferRow.{OfferRow}
use Rattle.drf_rows.specs.declared.rows.Rows.{Rows}
use Rattle.drf_rows.specs.declared.event.Accept as accepting
use Rattle.drf_rows.specs.declared.event.Decline as declining
use Rattle.drf_rows.specs.declared.event.Event.{Event}
use Rattle.drf_rows.specs.declared.event.Event.TheVariants as event
use Rattle.drf_rows.specs.declared.event.Event.TheVariants.{AddAgent, RemoveAgent, ActivateAgent, DeactivateAgent, SetAgent, AddFramework, SetFramework, RemoveFramework, Accept, Decline, Rescind, Finish, Suppress, Revive, Reserve, Unreserve, SetWeight, SetLimit, Cycle}
use Rattle.drf_rows.specs.declared.reply.Reply.{Reply}
use Rattle.drf_rows.specs.declared.reply.Reply.TheVariants as reply
use Rattle.drf_rows.specs.declared.reply.Reply.TheVariants.{Done, Offers, Refused}
use Rattle.drf_rows.specs.declared.reply.Refusal.{Refusal}
use Rattle.drf_rows.specs.declared.reply.Refusal.TheVariants.{HistoryFull, BadMoment, UnknownAgent, KnownAgent, UnknownFramework, KnownFramework, UnknownOffer, NotYours, UnknownTask, KnownTask, NotInRole, DefaultRole, Empty, NotUnreserved, NotCovered, OverLimit, BadWeight, TooLarge, TooMany, RoleInUse}
use Rattle.drf_rows.specs.declared.reply.OfferLine.{OfferLine}

-- the state of a new allocator
abbrev pub opening : Rows
opening = record {
  agents = [];
  frameworks = [];
  offers = [];
  tasks = [];
  weights = [];
  limits = [];
  filters = [];
  clock = 0;
  next_offer = 1;
  events = 0;
}

-- the current state: the rows without expired filters
abbrev pub live_rows : Rows → Rows
live_rows rows = record rows { filters = in_force rows.clock rows.filters }

-- as many events were accepted as the capacity allows
abbrev pub is_full : LimitNumbers → Rows → Bool
is_full limits rows = nat_le limits.events rows.events

-- the agents have more names of scalars than the capacity allows
abbrev pub too_many_names : LimitNumbers → List AgentRow → Bool
too_many_names limits agents = nat_lt limits.scalar_names (length (cluster_total agents))

-- there are more agents, or more names of scalars, than the capacity allows
abbrev pub too_many_agents : LimitNumbers → List AgentRow → Bool
too_many_agents limits agents = nat_lt limits.agents (length agents) || too_many_names limits agents

-- with a new framework in these roles there would be too many frameworks, too many roles of this framework, or too many
-- clients
abbrev pub too_many_frameworks : LimitNumbers → Rows → List Path → Bool
too_many_frameworks limits rows roles =
    nat_lt limits.frameworks (length rows.frameworks + 1)
    || (nat_lt limits.roles (length (distinct roles)) || nat_lt limits.clients (length (clients_of rows) + length (distinct roles)))

-- the accept would add a filter, and as many filters as the capacity allows are in force already
abbrev pub accept_is_too_much : LimitNumbers → Rows → accepting.Accept → Bool
accept_is_too_much limits rows a =
    option_map_or (λ o. filters_rest o a.tasks a.refuse_ms) (offer_at rows a.offer) false && are_many_filters limits rows a.at

-- the decline would add a filter, and as many filters as the capacity allows are in force already
abbrev pub decline_is_too_much : LimitNumbers → Rows → declining.Decline → Bool
decline_is_too_much limits rows d = filters_all d.refuse_ms && are_many_filters limits rows d.at

-- the framework is registered in the role
abbrev pub is_in_role : Rows → Text → Path → Bool
is_in_role rows framework role = is_registered rows.frameworks (record { role = role; framework = framework })

-- a new limit would be a row too many, or the limit names too many scalars
abbrev pub too_many_limits : LimitNumbers → Rows → Path → List Entry → Bool
too_many_limits limits rows role limit =
    (not (is_empty limit) && (not (has_limit rows role) && nat_lt limits.limits (length rows.limits + 1)))
    || nat_lt limits.scalar_names (length limit)

-- some scalar of the resources exceeds 2^40 - 1 thousandths, over all its reservations
abbrev pub is_too_large : List Resource → Bool
is_too_large total = list_any (λ e. nat_lt LARGEST_AMOUNT e.amount) (quantities_of total)

-- the refusal of the first case that holds, if one does
abbrev pub first_case : List (Bool × Refusal) → Option Refusal
first_case cases = option_map (λ c. c.1) (find (λ c. c.0) cases)

-- the cases in which an event is refused, in order of their numbers, without `HistoryFull`, which comes first for every
-- event
abbrev pub own_cases_of : LimitNumbers → Rows → Event → List (Bool × Refusal)
own_cases_of limits rows (AddAgent agent total) =
    (has_agent rows agent, KnownAgent)
    ∷ (is_too_large total, TooLarge)
    ∷ (too_many_agents limits (with_agent rows agent total), TooMany)
    ∷ []
own_cases_of limits rows (RemoveAgent agent) = (not (has_agent rows agent), UnknownAgent) ∷ []
own_cases_of limits rows (ActivateAgent agent) = (not (has_agent rows agent), UnknownAgent) ∷ []
own_cases_of limits rows (DeactivateAgent agent) = (not (has_agent rows agent), UnknownAgent) ∷ []
own_cases_of limits rows (SetAgent agent total) =
    (not (has_agent rows agent), UnknownAgent)
    ∷ (is_below_held rows agent total, NotCovered)
    ∷ (is_too_large total, TooLarge)
    ∷ (too_many_names limits (with_other_total rows agent total), TooMany)
    ∷ []
own_cases_of limits rows (AddFramework framework roles) =
    (has_framework rows framework, KnownFramework)
    ∷ (is_empty roles, Empty)
    ∷ (too_many_frameworks limits rows roles, TooMany)
    ∷ []
own_cases_of limits rows (SetFramework framework roles) =
    (not (has_framework rows framework), UnknownFramework)
    ∷ (is_empty roles, Empty)
    ∷ (too_many_roles limits rows framework roles, TooMany)
    ∷ (is_role_in_use rows framework roles, RoleInUse)
    ∷ []
own_cases_of limits rows (RemoveFramework framework) = (not (has_framework rows framework), UnknownFramework) ∷ []
own_cases_of limits rows (Accept a) =
    (nat_lt LATEST_TIMESTAMP a.at, BadMoment)
    ∷ (not (has_framework rows a.framework), UnknownFramework)
    ∷ (not (has_offer rows a.offer), UnknownOffer)
    ∷ (belongs_to_another rows a.framework a.offer, NotYours)
    ∷ (is_task_known rows a.framework a.tasks, KnownTask)
    ∷ (list_any is_empty (uses a.tasks), Empty)
    ∷ (exceeds_offer rows a.offer a.tasks, NotCovered)
    ∷ (accept_is_too_much limits rows a, TooMany)
    ∷ []
own_cases_of limits rows (Decline d) =
    (nat_lt LATEST_TIMESTAMP d.at, BadMoment)
    ∷ (not (has_framework rows d.framework), UnknownFramework)
    ∷ (not (has_offer rows d.offer), UnknownOffer)
    ∷ (belongs_to_another rows d.framework d.offer, NotYours)
    ∷ (decline_is_too_much limits rows d, TooMany)
    ∷ []
own_cases_of limits rows (Rescind offer) = (not (has_offer rows offer), UnknownOffer) ∷ []
own_cases_of limits rows (Finish framework task) =
    (not (has_framework rows framework), UnknownFramework)
    ∷ (not (has_task rows framework task), UnknownTask)
    ∷ []
own_cases_of limits rows (Suppress framework role) =
    (not (has_framework rows framework), UnknownFramework)
    ∷ (not (is_in_role rows framework role), NotInRole)
    ∷ []
own_cases_of limits rows (Revive framework role) =
    (not (has_framework rows framework), UnknownFramework)
    ∷ (not (is_in_role rows framework role), NotInRole)
    ∷ []
own_cases_of limits rows (Reserve agent role resources) =
    (not (has_agent rows agent), UnknownAgent)
    ∷ (is_default role, DefaultRole)
    ∷ (is_empty resources, Empty)
    ∷ (not (is_unreserved resources), NotUnreserved)
    ∷ (is_not_free rows agent resources, NotCovered)
    ∷ (not (admits rows role (quantities_of resources)), OverLimit)
    ∷ []
own_cases_of limits rows (Unreserve agent role resources) =
    (not (has_agent rows agent), UnknownAgent)
    ∷ (is_default role, DefaultRole)
    ∷ (is_empty resources, Empty)
    ∷ (not (is_unreserved resources), NotUnreserved)
    ∷ (is_not_free rows agent (relabel role resources), NotCovered)
    ∷ []
own_cases_of limits rows (SetWeight role weight) =
    (not (is_weight weight), BadWeight)
    ∷ (too_many_weights limits rows role, TooMany)
    ∷ []
own_cases_of limits rows (SetLimit role limit) =
    (is_default role, DefaultRole)
    ∷ (too_many_limits limits rows role limit, TooMany)
    ∷ []
own_cases_of limits rows (Cycle at) = (nat_lt LATEST_TIMESTAMP at, BadMoment) ∷ []
own_cases_of limits rows event.Report = []

-- all cases in which an event is refused, in order of their numbers: when the history is full, every event is refused
abbrev pub cases_of : LimitNumbers → Rows → Event → List (Bool × Refusal)
cases_of limits rows event = (is_full limits rows, HistoryFull) ∷ own_cases_of limits rows event

-- why an event is refused, if it is: the first of the cases that hold, which has the least number
unfoldable pub refusal_of : LimitNumbers → Rows → Event → Option Refusal
refusal_of limits rows event = first_case (cases_of limits rows event)

-- the state after an event that is not refused; `rows_after` adds the count of accepted events
unfoldable pub effect : Rows → Event → Rows
effect rows (AddAgent agent total) = record rows { agents = with_agent rows agent total }
effect rows (RemoveAgent agent) = agent_removed rows agent
effect rows (ActivateAgent agent) = record rows { agents = with_activity rows agent true }
effect rows (DeactivateAgent agent) = agent_deactivated rows agent
effect rows (SetAgent agent total) = record rows { agents = with_other_total rows agent total }
effect rows (AddFramework framework roles) = record rows { frameworks = with_framework rows framework roles }
effect rows (SetFramework framework roles) = framework_set rows framework roles
effect rows (RemoveFramework framework) = framework_removed rows framework
effect rows (Accept a) =
    option_map_or (λ o. offer_accepted (at_timestamp rows a.at) o a.tasks a.refuse_ms) (offer_at rows a.offer) rows
effect rows (Decline d) =
    option_map_or (λ o. offer_declined (at_timestamp rows d.at) o d.refuse_ms) (offer_at rows d.offer) rows
effect rows (Rescind offer) = without_ended rows (one_offer offer)
effect rows (Finish framework task) = without_ended rows (one_task framework task)
effect rows (Suppress framework role) =
    record rows { frameworks = with_suppression rows (record { role = role; framework = framework }) true }
effect rows (Revive framework role) = revived rows (record { role = role; framework = framework })
effect rows (Reserve agent role resources) = record rows { agents = with_reserved rows agent role resources }
effect rows (Unreserve agent role resources) = record rows { agents = with_unreserved rows agent role resources }
effect rows (SetWeight role weight) = record rows { weights = weights_with rows.weights role weight }
effect rows (SetLimit role limit) = record rows { limits = limits_with rows.limits role limit }
effect rows (Cycle at) = cycle rows at
effect rows event.Report = rows

-- the line of an offer in a reply
abbrev pub line_reported : OfferRow → OfferLine
line_reported o = record { number = o.number; agent = o.agent; framework = o.framework; role = o.role; resources = o.bundle }

-- the offers of `after` that `before` does not have: offers are added last, so they are the ones after the first
-- `length before.offers`
abbrev pub new_offers : Rows → Rows → List OfferRow
new_offers before after = drop (length before.offers) after.offers

-- the reply to an event that is not refused
abbrev pub answer : Rows → Rows → Event → Reply
answer before after (Cycle at) = Offers (map line_reported (new_offers before after))
answer before after event.Report = reply.Report (report_of before)
answer before after other = Done

-- the state after an event: a refused event changes nothing
unfoldable pub rows_after : LimitNumbers → Rows → Event → Rows
rows_after limits rows event =
    option_map_or (λ refusal. rows) (refusal_of limits rows event) (record (effect rows event) { events = rows.events + 1 })

-- the reply to an event
unfoldable pub reply_to : LimitNumbers → Rows → Event → Reply
reply_to limits rows event = option_map_or Refused (refusal_of limits rows event) (answer rows (effect rows event) event)

-- the state after a list of events
abbrev pub rows_after_all : LimitNumbers → Rows → List Event → Rows
rows_after_all limits rows [] = rows
rows_after_all limits rows (event ∷ events) = rows_after_all limits (rows_after limits rows event) events

-- the replies to a list of events
abbrev pub replies_to : LimitNumbers → Rows → List Event → List Reply
replies_to limits rows [] = []
replies_to limits rows (event ∷ events) = reply_to limits rows event ∷ replies_to limits (rows_after limits rows event) events
