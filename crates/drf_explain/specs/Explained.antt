-- An explanation of the next cycle: what it offers to each client, and why it offers nothing.
use Rattle.std.specs.Prelude.{ℕ, suc, max, List, [], ◌∷◌, ◌++◌, length, map, filter, flat_map, Option, if◌then◌else◌, nat_le, nat_lt, codes}
use Rattle.std.specs.List.{reduce}
use Rattle.std.specs.Option.{option_map_or}
use Rattle.drf_role.specs.Text.{Text}
use Rattle.drf_role.specs.Path.{Path}
use Rattle.drf_bundle.specs.Bundle.{part_for, quantities_of}
use Rattle.drf_bundle.specs.Quantities.{amount_of}
use Rattle.drf_bundle.specs.declared.resource.Resource.{Resource}
use Rattle.drf_rows.specs.Client.{Client, path_of}
use Rattle.drf_rows.specs.Cycle.{free_of, is_allocatable, tried, turn_order, turn, at_timestamp}
use Rattle.drf_rows.specs.Filters.{holds_back}
use Rattle.drf_rows.specs.Held.{client_of}
use Rattle.drf_rows.specs.Offers.{is_empty}
use Rattle.drf_rows.specs.Quota.{Consumed, binds, room_under, consumption, entitlement}
use Rattle.drf_rows.specs.declared.rows.AgentRow.{AgentRow}
use Rattle.drf_rows.specs.declared.rows.ClientRow.{ClientRow}
use Rattle.drf_rows.specs.declared.rows.FilterRow.{FilterRow}
use Rattle.drf_rows.specs.declared.rows.FrameworkRow.{FrameworkRow}
use Rattle.drf_rows.specs.declared.rows.LimitRow.{LimitRow}
use Rattle.drf_rows.specs.declared.rows.Rows.{Rows}
use Rattle.drf_explain.specs.declared.finding.Finding.{Finding}
use Rattle.drf_explain.specs.declared.finding.Finding.TheVariants.{Suppressed, Inactive, NothingFree, Tried, Left}
use Rattle.drf_explain.specs.declared.finding.Outcome.{Outcome}
use Rattle.drf_explain.specs.declared.finding.Outcome.TheVariants.{Grant, HeldBack, OverLimit, BelowThreshold, NothingLeft, ReservedForOthers}

-- ---- why a client is offered nothing

-- the latest end of the filters of a client on an agent that cover a bundle, if any filter does
abbrev pub held_until : List FilterRow → ℕ → Client → Text → List Resource → Option ℕ
held_until filters clock client agent bundle = reduce max (map (λ f. f.until) (filter (holds_back clock client agent bundle) filters))

-- the limit that leaves less, or the first if both leave equally much
abbrev pub tighter : (LimitRow → ℕ) → LimitRow → LimitRow → LimitRow
tighter room first second = if nat_lt (room second) (room first) then second else first

-- among the limits that apply to a role and a scalar, the one that leaves least
abbrev pub tightest : List LimitRow → Consumed → Path → Text → Option LimitRow
tightest limits consumed role label = reduce (tighter (room_under consumed label)) (filter (binds role label) limits)

-- the scalar that makes a part large enough for an offer
abbrev pub worthy_scalar : List Resource → Text
worthy_scalar part = if nat_le 10 (amount_of (quantities_of part) (codes "cpus")) then codes "cpus" else codes "mem"

-- the role whose limit leaves least of that scalar
abbrev pub limiting_role : List LimitRow → Consumed → Path → List Resource → Path
limiting_role limits consumed role part = option_map_or (λ l. l.role) (tightest limits consumed role (worthy_scalar part)) role

-- why a client is offered nothing if the limits leave too little of the part of the free resources that its role can use
abbrev pub shortage : List LimitRow → Consumed → Path → List Resource → List Resource → Outcome
shortage limits consumed role free part =
    if is_allocatable part then OverLimit (limiting_role limits consumed role part)
    else if is_empty free then NothingLeft
    else if is_empty part then ReservedForOthers
    else BelowThreshold

-- ---- a client is tried

-- its outcome, given the free resources, the part of them that its role can use, and what the limits leave of that part
abbrev pub outcome_by : Rows → AgentRow → Client → List Resource → List Resource → List Resource → Outcome
outcome_by rows agent client free part bundle =
    if is_allocatable bundle then option_map_or HeldBack (held_until rows.filters rows.clock client agent.name bundle) (Grant bundle)
    else shortage rows.limits (consumption rows) client.role free part

abbrev pub outcome : Rows → AgentRow → Client → Outcome
outcome rows agent client =
    outcome_by rows agent client (free_of rows agent) (part_for client.role (free_of rows agent)) (entitlement rows (free_of rows agent) client)

-- ---- the turn of an agent

-- the findings about clients that are tried one after another, until too little is free for an offer
abbrev pub reported_of_all : Rows → AgentRow → List Client → List Finding
reported_of_all rows agent [] = []
reported_of_all rows agent (client ∷ clients) =
    if is_allocatable (free_of rows agent)
    then Tried agent.name (path_of client) (outcome rows agent client) ∷ reported_of_all (tried rows agent client) agent clients
    else Left agent.name (free_of rows agent) (suc (length clients)) ∷ []

-- the findings about an active agent
abbrev pub reported_of_active : Rows → AgentRow → List Finding
reported_of_active rows agent =
    if is_empty (free_of rows agent) then NothingFree agent.name ∷ [] else reported_of_all rows agent (turn_order rows)

abbrev pub reported_of_agent : Rows → AgentRow → List Finding
reported_of_agent rows agent = if agent.active then reported_of_active rows agent else Inactive agent.name ∷ []

-- the rows after an agent's turn, which it has only if it is active
abbrev pub after_agent : Rows → AgentRow → Rows
after_agent rows agent = if agent.active then turn rows agent else rows

-- the findings about agents whose turns come one after another
abbrev pub reported_of_agents : Rows → List AgentRow → List Finding
reported_of_agents rows [] = []
reported_of_agents rows (agent ∷ agents) = reported_of_agent rows agent ++ reported_of_agents (after_agent rows agent) agents

-- ---- the cycle

-- the suppressed clients, in the order of the frameworks
abbrev pub reported_if_suppressed : FrameworkRow → ClientRow → List Finding
reported_if_suppressed f c = if c.suppressed then Suppressed (path_of (client_of f c)) ∷ [] else []

abbrev pub suppressed_in : FrameworkRow → List Finding
suppressed_in f = flat_map (reported_if_suppressed f) f.clients

abbrev pub suppressed_of : Rows → List Finding
suppressed_of rows = flat_map suppressed_in rows.frameworks

-- the explanation of the cycle at a timestamp
unfoldable pub explained : Rows → ℕ → List Finding
explained rows at = suppressed_of rows ++ reported_of_agents (at_timestamp rows at) rows.agents
