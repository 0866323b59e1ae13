-- The audit of an agent.
use Rattle.std.specs.Prelude.{List, length, filter}
use Rattle.drf_bundle.specs.Taken.{rest_of_all}
use Rattle.drf_bundle.specs.declared.resource.Resource.{Resource}
use Rattle.drf_rows.specs.Cycle.{free_of}
use Rattle.drf_rows.specs.Holdings.{holdings_of, is_on}
use Rattle.drf_rows.specs.declared.rows.AgentRow.{AgentRow}
use Rattle.drf_rows.specs.declared.rows.Rows.{Rows}
use Rattle.drf_audit.specs.declared.agents.AuditLine.{AuditLine}

-- an agent's line: its total, its free resources, and how many offers and tasks are on it
abbrev pub line_of : Rows → AgentRow → AuditLine
line_of rows agent = record {
  agent = agent.name;
  total = agent.total;
  free = free_of rows agent;
  out = length (filter (is_on agent.name) (holdings_of rows));
}

-- the same, computed from the bundles that are held on the agent
abbrev pub line_with : AgentRow → List (List Resource) → AuditLine
line_with agent parts =
    record { agent = agent.name; total = agent.total; free = rest_of_all agent.total parts; out = length parts }
