-- A small cluster, and what is shown of it.
use Rattle.std.specs.Prelude.{ℕ, List, [], ◌∷◌, ◌++◌, true, false, codes}
use Rattle.drf_bundle.specs.declared.quantities.Entry.{Entry}
use Rattle.drf_role.specs.Path.{Path}
use Rattle.drf_rows.specs.LimitNumbers.{ceilings}
use Rattle.drf_rows.specs.Step.{opening, rows_after_all}
use Rattle.drf_worked.specs.Examples.{cpus, mem, framework_in}
use Rattle.drf_worked.specs.LifeExamples.{accept_for}
use Rattle.drf_worked.specs.QuotaExamples.{cpus_limit}
use Rattle.drf_rows.specs.declared.event.Event.{Event}
use Rattle.drf_rows.specs.declared.event.Event.TheVariants.{AddAgent, Cycle, Suppress}
use Rattle.drf_rows.specs.declared.rows.Rows.{Rows}
use Rattle.drf_show.specs.Aligned.{Cells}
use Rattle.drf_show.specs.Shown.{table_line}
use Rattle.drf_show.specs.declared.agents.AgentLine.{AgentLine}
use Rattle.drf_show.specs.declared.clients.ClientLine.{ClientLine}
use Rattle.drf_show.specs.declared.filters.FilterLine.{FilterLine}
use Rattle.drf_show.specs.declared.limits.LimitLine.{LimitLine}
use Rattle.drf_show.specs.declared.tables.CountedTable.TheVariants.{Agents, ScalarNames, Frameworks, Clients, Weights, Limits, Filters, Events}
use Rattle.drf_show.specs.declared.tables.TableLine.{TableLine}

abbrev role_a : Path
role_a = codes "a" ∷ []

abbrev cpus_of : ℕ → Entry
cpus_of amount = record { label = codes "cpus"; amount = amount }

-- `f1` runs a task under a limit, has declined the rest, and is suppressed; the rest is offered to `f2`
abbrev pub small : List Event
small =
    AddAgent (codes "n1") (cpus 4000 ∷ mem 1024000 ∷ [])
    ∷ framework_in (codes "f1") (codes "a")
    ∷ cpus_limit role_a 3000
    ∷ Cycle 0
    ∷ accept_for (codes "f1") 1 ((codes "t1", cpus 1000 ∷ []) ∷ []) 0 5000
    ∷ framework_in (codes "f2") (codes "b")
    ∷ Cycle 1000
    ∷ Suppress (codes "f1") role_a
    ∷ []

abbrev pub small_rows : Rows
small_rows = rows_after_all ceilings opening small

abbrev pub small_agents : List AgentLine
small_agents = record {
  agent = codes "n1";
  active = true;
  out = 2;
  total = cpus 4000 ∷ mem 1024000 ∷ [];
  held = cpus 4000 ∷ mem 1024000 ∷ [];
  free = [];
} ∷ []

abbrev pub small_clients : List ClientLine
small_clients =
    record {
      framework = codes "f1";
      role = role_a;
      suppressed = true;
      count = 1;
      weighted = (1, 4);
      offered = [];
      used = cpus_of 1000 ∷ [];
    }
    ∷ record {
      framework = codes "f2";
      role = codes "b" ∷ [];
      suppressed = false;
      count = 1;
      weighted = (1, 1);
      offered = cpus_of 3000 ∷ record { label = codes "mem"; amount = 1024000 } ∷ [];
      used = [];
    }
    ∷ []

abbrev pub small_limits : List LimitLine
small_limits = record { role = role_a; limit = cpus_of 3000 ∷ []; consumed = cpus_of 1000 ∷ [] } ∷ []

abbrev pub small_filters : List FilterLine
small_filters = record {
  framework = codes "f1";
  role = role_a;
  agent = codes "n1";
  left = 4000;
  until = 5000;
  resources = cpus 2000 ∷ mem 1024000 ∷ [];
} ∷ []

abbrev pub small_tables : List TableLine
small_tables =
    table_line Agents 1 4096
    ∷ table_line ScalarNames 2 32
    ∷ table_line Frameworks 2 1024
    ∷ table_line Clients 2 4096
    ∷ table_line Weights 0 4096
    ∷ table_line Limits 1 4096
    ∷ table_line Filters 1 65536
    ∷ table_line Events 8 4294967295
    ∷ []

-- a table of two rows
abbrev pub two_by_three : List Cells
two_by_three =
    (codes "ROLE" ∷ codes "LIMIT" ∷ codes "CONSUMED" ∷ [])
    ∷ (codes "a" ∷ codes "cpus:3;gpus:0" ∷ codes "cpus:1;gpus:0" ∷ [])
    ∷ []

abbrev pub two_by_three_text : List ℕ
two_by_three_text = codes "ROLE  LIMIT          CONSUMED" ++ 10 ∷ codes "a     cpus:3;gpus:0  cpus:1;gpus:0" ++ 10 ∷ []
