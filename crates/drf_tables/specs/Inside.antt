-- The rows that the fields of the tables mean, and what the fields store besides the rows.
use Rattle.std.specs.Prelude.{◌≡◌, ◌≤◌, ℕ, Bool, List, length, map, fold, slice_set, Option, Some, is_some}
use Rattle.std.specs.List.{list_all, AllByRecursion}
use Rattle.std.specs.Global.{Vec}
use Rattle.drf_role.specs.Text.{Text}
use Rattle.drf_role.specs.Path.{Path}
use Rattle.drf_bundle.specs.declared.quantities.Entry.{Entry}
use Rattle.drf_bundle.specs.declared.resource.Resource.{Resource}
use Rattle.drf_rows.specs.Held.{clients_of, cluster_total}
use Rattle.drf_rows.specs.Consistent.{IsConsistent}
use Rattle.drf_rows.specs.declared.rows.AgentRow.{AgentRow}
use Rattle.drf_rows.specs.declared.rows.ClientRow.{ClientRow}
use Rattle.drf_rows.specs.declared.rows.FrameworkRow.{FrameworkRow}
use Rattle.drf_rows.specs.declared.rows.WeightRow.{WeightRow}
use Rattle.drf_rows.specs.declared.rows.LimitRow.{LimitRow}
use Rattle.drf_rows.specs.declared.rows.Rows.{Rows}
use Rattle.drf_bundle.specs.Taken.{rest_of_all}
use Rattle.drf_rows.specs.Holdings.{Holding, holdings_of, parts_on}
use Rattle.drf_rows.specs.declared.rows.FilterRow.{FilterRow}
use Rattle.drf_holdings.specs.Stored.{OffersAndTasks}
use Rattle.drf_tables.specs.limits.Recounting.{CountsAll}
use Rattle.drf_tables.specs.declared.tables.Left.{Left}
use Rattle.drf_tables.specs.declared.tables.Agent.{Agent}
use Rattle.drf_tables.specs.declared.tables.Tables.TheInside.{Inside}

abbrev pub agent_row : Text × Agent → AgentRow
agent_row e = record { name = e.0; total = e.1.total; active = e.1.active }

abbrev pub framework_row : Text × Vec ClientRow → FrameworkRow
framework_row e = record { name = e.0; clients = e.1.items }

abbrev pub framework_rows : List (Text × Vec ClientRow) → List FrameworkRow
framework_rows entries = map framework_row entries

abbrev pub weight_row : Path × ℕ → WeightRow
weight_row e = record { role = e.0; weight = e.1 }

abbrev pub weight_rows : List (Path × ℕ) → List WeightRow
weight_rows entries = map weight_row entries

-- the free resources of each agent, if they are known
abbrev pub frees_in : List (Text × Agent) → List (Option (List Resource))
frees_in entries = map (λ e. e.1.free) entries

-- the free resources after some are replaced by those that remain after turns
abbrev pub known_after : List (Option (List Resource)) → List Left → List (Option (List Resource))
known_after frees lefts = fold (λ frees left. slice_set frees left.agent (Some left.free)) frees lefts

-- the free resources of every agent are known
abbrev pub is_settled : List (Text × Agent) → Bool
is_settled entries = list_all (λ e. is_some e.1.free) entries

unfoldable pub rows_of :
    List (Text × Agent)
    → List (Text × Vec ClientRow)
    → OffersAndTasks
    → List FilterRow
    → List (Path × ℕ)
    → List LimitRow
    → ℕ
    → ℕ
    → ℕ
    → Rows
rows_of agents frameworks holdings filters weights limits clock next_offer events = record {
  agents = map agent_row agents;
  frameworks = framework_rows frameworks;
  offers = holdings.offers;
  tasks = holdings.tasks;
  weights = weight_rows weights;
  limits = limits;
  filters = filters;
  clock = clock;
  next_offer = next_offer;
  events = events;
}

-- the rows that the fields mean
abbrev pub rows_in : Inside → Rows
rows_in t =
    rows_of t.agents.entries t.frameworks.entries t.holdings t.filters t.weights.entries t.limits t.clock t.next_offer t.events

-- if the free resources of an agent are stored, they are its total without all that is held there
abbrev pub IsKnown : List Holding → Text × Agent → Type 0
IsKnown holdings e = (free : List Resource) → e.1.free ≡ Some free → free ≡ rest_of_all e.1.total (parts_on e.0 holdings)

-- what is stored besides the rows agrees with them
pub record AreDerived (rows : Rows) (agents : List (Text × Agent)) (sum : List Entry) (number : ℕ) : Type 0 where
  pub consistent : IsConsistent rows
  pub free : AllByRecursion (IsKnown (holdings_of rows)) agents
  pub total : sum ≡ cluster_total rows.agents
  pub clients : number ≡ length (clients_of rows)
  -- so few that their total of a scalar is below 2^64
  pub few : length rows.agents ≤ 4096

-- the invariant of the tables: what is stored besides the rows, and consumption if it is known, agree with the rows
pub record IsWhole (t : Inside) : Type 0 where
  pub kept : AreDerived (rows_in t) t.agents.entries t.total t.clients
  pub consumed : CountsAll (rows_in t) t.consumption
