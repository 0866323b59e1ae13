-- What is true of the state of an allocator at all times, and after an event.
use Rattle.std.specs.Prelude.{◌≡◌, ◌+◌, ◌≤◌, length}
use Rattle.drf_rows.specs.LimitNumbers.{LimitNumbers, IsWithinCeilings}
use Rattle.drf_rows.specs.Held.{clients_of}
use Rattle.drf_rows.specs.Consistent.{IsConsistent, IsNumberedByEvents}
use Rattle.drf_rows.specs.declared.rows.Rows.{Rows}

-- agents, frameworks, clients, weights and accepted events are within the capacities, and the capacities are valid
pub record AreFew (limits : LimitNumbers) (rows : Rows) : Type 0 where
  pub ceilings : IsWithinCeilings limits
  pub agents : length rows.agents ≤ limits.agents
  pub frameworks : length rows.frameworks ≤ limits.frameworks
  pub clients : length (clients_of rows) ≤ limits.clients
  pub weights : length rows.weights ≤ limits.weights
  pub events : rows.events ≤ limits.events

-- the state is consistent, within the capacities, and its offers are numbered by its events
pub record IsKept (limits : LimitNumbers) (rows : Rows) : Type 0 where
  pub consistent : IsConsistent rows
  pub few : AreFew limits rows
  pub numbered : IsNumberedByEvents rows

-- once the accepted event is counted, the new state is within the capacities, and its offers are numbered by its events
pub record IsCountable (limits : LimitNumbers) (rows new : Rows) : Type 0 where
  pub few : AreFew limits (record new { events = rows.events + 1 })
  pub numbered : IsNumberedByEvents (record new { events = rows.events + 1 })
  pub events : new.events ≡ rows.events
