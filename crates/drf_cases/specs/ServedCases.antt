-- The order of clients in states in which a wrong definition could easily leave something out.
use Rattle.std.specs.Prelude.{ℕ, true, false, [], ◌∷◌, codes}
use Rattle.drf_role.specs.Text.{Text}
use Rattle.drf_bundle.specs.declared.resource.Resource.{Resource}
use Rattle.drf_bundle.specs.declared.value.Value.TheVariants.{Scalar}
use Rattle.drf_rows.specs.declared.rows.AgentRow.{AgentRow}
use Rattle.drf_rows.specs.declared.rows.FrameworkRow.{FrameworkRow}
use Rattle.drf_rows.specs.declared.rows.Rows.{Rows}
use Rattle.drf_rows.specs.declared.rows.TaskRow.{TaskRow}
use Rattle.drf_worked.specs.Examples.{cpus}
use Rattle.drf_worked.specs.OrderExamples.{agent_with, eng, framework_row, holding, ops, rows_with}

-- so many thousandths of `mem`, reserved for a role of one component
abbrev pub mem_for : Text → ℕ → Resource
mem_for role amount = record { label = codes "mem"; role = role ∷ []; value = Scalar amount }

-- a suppressed framework
abbrev suppressed_in_eng : FrameworkRow
suppressed_in_eng = record { name = codes "f1"; clients = record { role = eng; count = 1; suppressed = true } ∷ [] }

-- one of two frameworks in a role is suppressed and holds more than a third one in another role
abbrev pub one_suppressed : Rows
one_suppressed = rows_with
    (agent_with (cpus 8000 ∷ []) ∷ [])
    (suppressed_in_eng ∷ framework_row (codes "f2") eng 0 ∷ framework_row (codes "f3") ops 1 ∷ [])
    (holding (codes "f1") eng (cpus 2000 ∷ []) ∷ holding (codes "f3") ops (cpus 1000 ∷ []) ∷ [])
    []

-- one of two frameworks in a role is suppressed and has received an offer
abbrev pub one_counted : Rows
one_counted = rows_with
    (agent_with (cpus 8000 ∷ []) ∷ [])
    (suppressed_in_eng ∷ framework_row (codes "f2") eng 0 ∷ framework_row (codes "f3") ops 0 ∷ [])
    []
    []

-- an inactive agent
abbrev idle : AgentRow
idle = record { name = codes "n2"; total = cpus 8000 ∷ []; active = false }

-- a task on it
abbrev runs_there : TaskRow
runs_there = record { name = codes "t"; agent = codes "n2"; framework = codes "f2"; role = eng; bundle = cpus 2000 ∷ [] }

-- one framework has this task, and another in another role is offered half as much on the other agent
abbrev pub one_idle : Rows
one_idle = record (rows_with
    (agent_with (cpus 8000 ∷ []) ∷ idle ∷ [])
    (framework_row (codes "f2") eng 1 ∷ framework_row (codes "f3") ops 1 ∷ [])
    (holding (codes "f3") ops (cpus 1000 ∷ []) ∷ [])
    []) { tasks = runs_there ∷ [] }
