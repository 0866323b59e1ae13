-- What is shown besides the rows themselves and the nodes of a report, with a line for each: the agents with their free and held resources, the clients
-- with what they are offered and use, the limits with what is consumed, the filters with the time that is left, and how full the tables are.
use Rattle.std.specs.Prelude.{ℕ, ◌-◌, List, [], ◌∷◌, length, map, fold, filter, flat_map}
use Rattle.drf_role.specs.Path.{Path}
use Rattle.drf_bundle.specs.Bundle.{rest}
use Rattle.drf_bundle.specs.Quantities.{with_amount, without_zeros}
use Rattle.drf_bundle.specs.declared.quantities.Entry.{Entry}
use Rattle.drf_rows.specs.Client.{Client, path_of}
use Rattle.drf_rows.specs.Cycle.{free_of}
use Rattle.drf_rows.specs.Held.{client_of, clients_of, cluster_total, standing_of}
use Rattle.drf_rows.specs.Holdings.{Holding, holdings_of, is_of, is_on, holding_of_offer, holding_of_task}
use Rattle.drf_rows.specs.LimitNumbers.{LimitNumbers}
use Rattle.drf_rows.specs.Quota.{consumption}
use Rattle.drf_rows.specs.Report.{sum_of, terms_of}
use Rattle.drf_rows.specs.Share.{weighted_share_of}
use Rattle.drf_rows.specs.declared.rows.AgentRow.{AgentRow}
use Rattle.drf_rows.specs.declared.rows.ClientRow.{ClientRow}
use Rattle.drf_rows.specs.declared.rows.FilterRow.{FilterRow}
use Rattle.drf_rows.specs.declared.rows.FrameworkRow.{FrameworkRow}
use Rattle.drf_rows.specs.declared.rows.LimitRow.{LimitRow}
use Rattle.drf_rows.specs.declared.rows.Rows.{Rows}
use Rattle.drf_show.specs.declared.agents.AgentLine.{AgentLine}
use Rattle.drf_show.specs.declared.clients.ClientLine.{ClientLine}
use Rattle.drf_show.specs.declared.filters.FilterLine.{FilterLine}
use Rattle.drf_show.specs.declared.limits.LimitLine.{LimitLine}
use Rattle.drf_show.specs.declared.tables.CountedTable.{CountedTable}
use Rattle.drf_show.specs.declared.tables.CountedTable.TheVariants.{Agents, ScalarNames, Frameworks, Clients, Weights, Limits, Filters, Events}
use Rattle.drf_show.specs.declared.tables.TableLine.{TableLine}

-- ---- agents

-- an agent: its total, its free resources, its held resources (the rest of the total), and how many offers and tasks are on it
abbrev pub agent_line : Rows → AgentRow → AgentLine
agent_line rows agent = record {
  agent = agent.name;
  active = agent.active;
  out = length (filter (is_on agent.name) (holdings_of rows));
  total = agent.total;
  held = rest agent.total (free_of rows agent);
  free = free_of rows agent;
}

abbrev pub agent_lines : Rows → List AgentLine
agent_lines rows = map (agent_line rows) rows.agents

-- ---- clients

-- the scalars that a client has in some holdings
abbrev pub had_of : Client → List Holding → List Entry
had_of client holdings = without_zeros (sum_of (filter (is_of (path_of client)) holdings))

-- a client: how many offers were made to it, its weighted share, what it is offered, and what its tasks use
abbrev pub client_line : Rows → FrameworkRow → ClientRow → ClientLine
client_line rows framework client = record {
  framework = framework.name;
  role = client.role;
  suppressed = client.suppressed;
  count = client.count;
  weighted = terms_of (weighted_share_of (standing_of rows) (path_of (client_of framework client)));
  offered = had_of (client_of framework client) (map holding_of_offer rows.offers);
  used = had_of (client_of framework client) (map holding_of_task rows.tasks);
}

abbrev pub client_lines : Rows → List ClientLine
client_lines rows = flat_map (λ framework. map (client_line rows framework) framework.clients) rows.frameworks

-- ---- limits

-- what a role and the roles below it consume of each scalar that a limit names
abbrev pub consumed : Rows → Path → List Entry → List Entry
consumed rows role limit = fold (λ sum e. with_amount sum e.label (consumption rows role e.label)) [] limit

-- a limit with what is consumed
abbrev pub limit_line : Rows → LimitRow → LimitLine
limit_line rows l = record { role = l.role; limit = l.limit; consumed = consumed rows l.role l.limit }

abbrev pub limit_lines : Rows → List LimitLine
limit_lines rows = map (limit_line rows) rows.limits

-- ---- filters

-- a filter with the time in milliseconds from the clock to its end
abbrev pub filter_line : ℕ → FilterRow → FilterLine
filter_line clock f = record {
  framework = f.framework;
  role = f.role;
  agent = f.agent;
  left = f.until - clock;
  until = f.until;
  resources = f.bundle;
}

abbrev pub filter_lines : Rows → List FilterLine
filter_lines rows = map (filter_line rows.clock) rows.filters

-- ---- how full the tables are

-- a table with its number of rows and its capacity
abbrev pub table_line : CountedTable → ℕ → ℕ → TableLine
table_line table rows limit = record { table = table; rows = rows; limit = limit }

-- agents, the names of their scalars, frameworks, clients, weights, limits, filters, and accepted events
abbrev pub table_lines : LimitNumbers → Rows → List TableLine
table_lines limits rows =
    table_line Agents (length rows.agents) limits.agents
    ∷ table_line ScalarNames (length (without_zeros (cluster_total rows.agents))) limits.scalar_names
    ∷ table_line Frameworks (length rows.frameworks) limits.frameworks
    ∷ table_line Clients (length (clients_of rows)) limits.clients
    ∷ table_line Weights (length rows.weights) limits.weights
    ∷ table_line Limits (length rows.limits) limits.limits
    ∷ table_line Filters (length rows.filters) limits.filters
    ∷ table_line Events rows.events limits.events
    ∷ []
