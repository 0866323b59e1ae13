-- The complete explanation of a cycle: each client that is not suppressed is tried on each active agent with free resources, however little is
-- left; and its outcome if it were tried first.
use Rattle.std.specs.Prelude.{ℕ, List, [], ◌∷◌, ◌++◌, map, if◌then◌else◌}
use Rattle.std.specs.List.{flat_map}
use Rattle.drf_rows.specs.Client.{Client, path_of}
use Rattle.drf_rows.specs.Cycle.{free_of, tried, turn_order, at_timestamp}
use Rattle.drf_rows.specs.Offers.{is_empty}
use Rattle.drf_rows.specs.declared.rows.AgentRow.{AgentRow}
use Rattle.drf_rows.specs.declared.rows.Rows.{Rows}
use Rattle.drf_explain.specs.Explained.{outcome, after_agent, suppressed_of}
use Rattle.drf_explain.specs.declared.finding.Finding.{Finding}
use Rattle.drf_explain.specs.declared.finding.Finding.TheVariants.{Inactive, NothingFree, Tried}

-- the finding about a client that is tried in these rows
abbrev pub reported_here : Rows → AgentRow → Client → Finding
reported_here rows agent client = Tried agent.name (path_of client) (outcome rows agent client)

-- the findings about clients that are tried one after another
abbrev pub reported_of_each : Rows → AgentRow → List Client → List Finding
reported_of_each rows agent [] = []
reported_of_each rows agent (client ∷ clients) =
    reported_here rows agent client ∷ reported_of_each (tried rows agent client) agent clients

-- the findings about an active agent
abbrev pub each_on_active : Rows → AgentRow → List Finding
each_on_active rows agent =
    if is_empty (free_of rows agent) then NothingFree agent.name ∷ [] else reported_of_each rows agent (turn_order rows)

-- the findings about an agent at the beginning of its turn
abbrev pub each_on : Rows → AgentRow → List Finding
each_on rows agent = if agent.active then each_on_active rows agent else Inactive agent.name ∷ []

-- the findings about agents whose turns come one after another, a list for each
abbrev pub each_on_all : Rows → List AgentRow → List (List Finding)
each_on_all rows [] = []
each_on_all rows (agent ∷ agents) = each_on rows agent ∷ each_on_all (after_agent rows agent) agents

-- the findings of the cycle at a timestamp, agent by agent
unfoldable pub each_by_agent : Rows → ℕ → List (List Finding)
each_by_agent rows at = each_on_all (at_timestamp rows at) rows.agents

-- ---- outcomes at the beginning of a turn

-- the outcome of each client of an active agent's turn if it were tried first: in the rows at the beginning of the turn
abbrev pub untouched_on_active : Rows → AgentRow → List Finding
untouched_on_active rows agent = if is_empty (free_of rows agent) then [] else map (reported_here rows agent) (turn_order rows)

-- on an agent that is inactive or has nothing free, no client is tried
abbrev pub untouched_on : Rows → AgentRow → List Finding
untouched_on rows agent = if agent.active then untouched_on_active rows agent else []

-- the findings about an agent, and the outcome of each of its clients if it were tried first
abbrev pub turn_on : Rows → AgentRow → List Finding × List Finding
turn_on rows agent = (each_on rows agent, untouched_on rows agent)

-- the same for agents whose turns come one after another
abbrev pub turns_on_all : Rows → List AgentRow → List (List Finding × List Finding)
turns_on_all rows [] = []
turns_on_all rows (agent ∷ agents) = turn_on rows agent ∷ turns_on_all (after_agent rows agent) agents

-- the same for the cycle at a timestamp
unfoldable pub turns_by_agent : Rows → ℕ → List (List Finding × List Finding)
turns_by_agent rows at = turns_on_all (at_timestamp rows at) rows.agents

-- ---- the complete explanation

-- the suppressed clients, and then the findings about all agents
abbrev pub each_reported : Rows → ℕ → List Finding
each_reported rows at = suppressed_of rows ++ flat_map (λ reported. reported) (each_by_agent rows at)
