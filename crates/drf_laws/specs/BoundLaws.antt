-- The tables stay within the capacities of the allocator.
use Rattle.std.specs.Prelude.{◌≤◌, List, length}
use Rattle.std.specs.List.{AllByRecursion}
use Rattle.drf_rows.specs.LimitNumbers.{LimitNumbers, IsWithinCeilings}
use Rattle.drf_rows.specs.Filters.{number_in_force}
use Rattle.drf_rows.specs.Held.{clients_of, cluster_total}
use Rattle.drf_rows.specs.Step.{opening, rows_after_all}
use Rattle.drf_rows.specs.declared.event.Event.{Event}
use Rattle.drf_rows.specs.declared.rows.Rows.{Rows}
use Rattle.drf_laws.specs.RunLaws.{AreGiven}

-- no table exceeds its capacity
pub record AreWithin (limits : LimitNumbers) (rows : Rows) : Type 0 where
  pub agents : length rows.agents ≤ limits.agents
  pub frameworks : length rows.frameworks ≤ limits.frameworks
  pub roles_of_each : AllByRecursion (λ f. length f.clients ≤ limits.roles) rows.frameworks
  pub clients : length (clients_of rows) ≤ limits.clients
  pub filters_in_force : number_in_force rows.clock rows.filters ≤ limits.filters
  pub weights : length rows.weights ≤ limits.weights
  pub limits_of_roles : length rows.limits ≤ limits.limits
  -- the names of scalars over all agents, and those in each limit
  pub names : length (cluster_total rows.agents) ≤ limits.scalar_names
  pub names_of_each : AllByRecursion (λ l. length l.limit ≤ limits.scalar_names) rows.limits
  pub events : rows.events ≤ limits.events

-- this is so in every run from the start, whatever the events
abbrev pub RunsStayWithinLimits : Type 0
RunsStayWithinLimits =
    (limits : LimitNumbers) (events : List Event)
    → IsWithinCeilings limits
    → AreGiven events
    → AreWithin limits (rows_after_all limits opening events)
