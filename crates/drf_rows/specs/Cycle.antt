-- The allocation cycle: who is offered what.
use Rattle.std.specs.Prelude.{ℕ, zero, suc, ◌+◌, max, Bool, not, ◌&&◌, ◌||◌, List, [], ◌∷◌, ◌++◌, length, map, fold, filter, find, Option, Some, None, if◌then◌else◌, nat_le, codes}
use Rattle.std.specs.List.{list_all}
use Rattle.std.specs.Option.{option_map_or}
use Rattle.drf_role.specs.Text.{same_text}
use Rattle.drf_bundle.specs.Bundle.{quantities_of}
use Rattle.drf_bundle.specs.Quantities.{amount_of}
use Rattle.drf_bundle.specs.Taken.{rest_of_all}
use Rattle.drf_rows.specs.Holdings.{holdings_of, parts_on, holding_of_offer}
use Rattle.drf_bundle.specs.declared.resource.Resource.{Resource}
use Rattle.drf_role.specs.Path.{same_path}
use Rattle.drf_rows.specs.Client.{Client, path_of}
use Rattle.drf_rows.specs.Share.{Standing, stands_before}
use Rattle.drf_rows.specs.Filters.{is_held_back}
use Rattle.drf_rows.specs.Held.{active_clients, standing_of}
use Rattle.drf_rows.specs.Quota.{entitlement}
use Rattle.drf_rows.specs.declared.rows.AgentRow.{AgentRow}
use Rattle.drf_rows.specs.declared.rows.ClientRow.{ClientRow}
use Rattle.drf_rows.specs.declared.rows.FrameworkRow.{FrameworkRow}
use Rattle.drf_rows.specs.declared.rows.OfferRow.{OfferRow}
use Rattle.drf_rows.specs.declared.rows.Rows.{Rows}

-- the free resources of an agent: its total less everything that is held there
unfoldable pub free_of : Rows → AgentRow → List Resource
free_of rows agent = rest_of_all agent.total (parts_on agent.name (holdings_of rows))

-- a bundle is large enough to be offered if it has 0.01 `cpus` or 32 `mem`, over all reservations
abbrev pub is_allocatable : List Resource → Bool
is_allocatable bundle =
    nat_le 10 (amount_of (quantities_of bundle) (codes "cpus")) || nat_le 32000 (amount_of (quantities_of bundle) (codes "mem"))

-- a bundle is granted if it is large enough and no filter of the client on the agent covers it
abbrev pub is_grantable : Rows → AgentRow → Client → List Resource → Bool
is_grantable rows agent client bundle =
    is_allocatable bundle && not (is_held_back rows.filters rows.clock client agent.name bundle)

-- what the client would be offered on the agent in this state, if anything
abbrev pub grant : Rows → AgentRow → Client → Option (List Resource)
grant rows agent client =
    let bundle = entitlement rows (free_of rows agent) client in
    if is_grantable rows agent client bundle then Some bundle else None

-- the row of a client, with one more offer counted if it is that of the client
abbrev pub counted : Client → ClientRow → ClientRow
counted client c = if same_path c.role client.role then record c { count = c.count + 1 } else c

-- the row of a framework, with one more offer counted for the client if it is one of its clients
abbrev pub count_offer : Client → FrameworkRow → FrameworkRow
count_offer client f = if same_text f.name client.framework then record f { clients = map (counted client) f.clients } else f

-- the next offer: the bundle on the agent, for the client
abbrev pub new_offer : Rows → AgentRow → Client → List Resource → OfferRow
new_offer rows agent client bundle =
    record { number = rows.next_offer; agent = agent.name; framework = client.framework; role = client.role; bundle = bundle }

-- the state with one more offer, which is added last and counted for its client
unfoldable pub with_offer : Rows → OfferRow → Rows
with_offer rows offer = record rows {
  frameworks = map (count_offer (holding_of_offer offer).client) rows.frameworks;
  offers = rows.offers ++ offer ∷ [];
  next_offer = rows.next_offer + 1;
}

-- the state after a client is tried: it is offered what it is granted, if anything
abbrev pub tried : Rows → AgentRow → Client → Rows
tried rows agent client = option_map_or (λ bundle. with_offer rows (new_offer rows agent client bundle)) (grant rows agent client) rows

-- the state after clients are tried, one after another
abbrev pub all_tried : Rows → AgentRow → List Client → Rows
all_tried rows agent [] = rows
all_tried rows agent (client ∷ clients) = all_tried (tried rows agent client) agent clients

-- the client that comes before all others in the order, if there is one
abbrev pub first_of : Standing → List Client → Option Client
first_of s clients =
    find (λ c. list_all (λ d. same_path (path_of c) (path_of d) || stands_before s (path_of c) (path_of d)) clients) clients

-- the clients without one of them
abbrev pub without : Client → List Client → List Client
without client clients = filter (λ d. not (same_path (path_of client) (path_of d))) clients

-- the first n clients in order: the one that comes before all others, and then the order of the rest
abbrev pub serving_order : Standing → ℕ → List Client → List Client
serving_order s zero clients = []
serving_order s (suc n) clients =
    option_map_or (λ c. c ∷ serving_order s n (without c clients)) (first_of s clients) []

-- the order of the active clients in a turn, computed from the state in which the turn begins
abbrev pub turn_order : Rows → List Client
turn_order rows = serving_order (standing_of rows) (length (active_clients rows)) (active_clients rows)

-- the state after the turn of an agent
unfoldable pub turn : Rows → AgentRow → Rows
turn rows agent = all_tried rows agent (turn_order rows)

-- the state after the turns of some agents, one after another
abbrev pub turns : Rows → List AgentRow → Rows
turns rows agents = fold turn rows agents

-- the state with the clock moved to a timestamp; the clock never goes back
abbrev pub at_timestamp : Rows → ℕ → Rows
at_timestamp rows at = record rows { clock = max rows.clock at }

-- the state after a cycle: each active agent has its turn, in order of registration
unfoldable pub cycle : Rows → ℕ → Rows
cycle rows at = turns (at_timestamp rows at) (filter (λ a. a.active) rows.agents)
