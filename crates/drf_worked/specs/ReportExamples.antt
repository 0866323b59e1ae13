-- States, with their reports.
use Rattle.std.specs.Prelude.{ℕ, true, List, [], ◌∷◌, ◌++◌, codes}
use Rattle.drf_role.specs.Path.{Path}
use Rattle.drf_role.specs.Text.{Text}
use Rattle.drf_bundle.specs.declared.quantities.Entry.{Entry}
use Rattle.drf_bundle.specs.declared.resource.Resource.{Resource}
use Rattle.drf_worked.specs.Examples.{cpus, cpus_for, mem, offer, one_cycle}
use Rattle.drf_worked.specs.OrderExamples.{agent_with, framework_row, holding, rows_with, role_a, role_b, eng, eng_web, ops}
use Rattle.drf_rows.specs.declared.event.Event.{Event}
use Rattle.drf_rows.specs.declared.event.Event.TheVariants as event
use Rattle.drf_rows.specs.declared.report.NodeLine.{NodeLine}
use Rattle.drf_rows.specs.declared.report.Report.{Report}
use Rattle.drf_rows.specs.declared.reply.Reply.{Reply}
use Rattle.drf_rows.specs.declared.reply.Reply.TheVariants as reply
use Rattle.drf_rows.specs.declared.reply.Reply.TheVariants.{Done, Offers}
use Rattle.drf_rows.specs.declared.rows.TaskRow.{TaskRow}
use Rattle.drf_rows.specs.declared.rows.Rows.{Rows}

-- so many thousandths of `cpus`, as a list of quantities
abbrev pub reported_cpus : ℕ → List Entry
reported_cpus amount = record { label = codes "cpus"; amount = amount } ∷ []

-- the line of a node with weight 1
abbrev pub line : Path → List Entry → ℕ × ℕ → ℕ → NodeLine
line path held share count =
    record { path = path; held = held; share = share; weighted = share; count = count }

-- a task of a framework
abbrev pub running : Text → Path → List Resource → TaskRow
running name role bundle =
    record { name = codes "t"; agent = codes "n1"; framework = name; role = role; bundle = bundle }

abbrev pub dot : Path
dot = codes "." ∷ []

-- three roles, one of them below another; all have tasks, and the first one an offer
abbrev pub tree_at_work : Rows
tree_at_work =
    record
    (rows_with (agent_with (cpus 8000 ∷ []) ∷ [])
    (framework_row (codes "f1") eng 2 ∷ framework_row (codes "f2") eng_web 1 ∷ framework_row (codes "f3") ops 2 ∷ [])
    (holding (codes "f1") eng (cpus 1000 ∷ []) ∷ [])
    []) {
      tasks =
          running (codes "f1") eng (cpus 1000 ∷ [])
          ∷ running (codes "f3") ops (cpus 2000 ∷ [])
          ∷ running (codes "f2") eng_web (cpus 2000 ∷ [])
          ∷ running (codes "f3") ops (cpus 2000 ∷ [])
          ∷ [];
    }

-- what a role holds includes what the roles below it hold
abbrev pub tree_report : Report
tree_report = record {
  total = reported_cpus 8000;
  nodes =
      line eng (reported_cpus 4000) (1, 2) 3
      ∷ line (eng ++ dot) (reported_cpus 2000) (1, 4) 2
      ∷ line (eng ++ dot ++ codes "f1" ∷ []) (reported_cpus 2000) (1, 4) 2
      ∷ line eng_web (reported_cpus 2000) (1, 4) 1
      ∷ line (eng_web ++ dot) (reported_cpus 2000) (1, 4) 1
      ∷ line (eng_web ++ dot ++ codes "f2" ∷ []) (reported_cpus 2000) (1, 4) 1
      ∷ line ops (reported_cpus 4000) (1, 2) 2
      ∷ line (ops ++ dot) (reported_cpus 4000) (1, 2) 2
      ∷ line (ops ++ dot ++ codes "f3" ∷ []) (reported_cpus 4000) (1, 2) 2
      ∷ [];
}

-- one of two roles has weight 3; its clients have weight 1
abbrev pub one_weighted : Rows
one_weighted = rows_with
    (agent_with (cpus 9000 ∷ []) ∷ [])
    (framework_row (codes "fb") role_b 1 ∷ framework_row (codes "fa") role_a 1 ∷ [])
    (holding (codes "fa") role_a (cpus 1000 ∷ []) ∷ holding (codes "fb") role_b (cpus 3000 ∷ []) ∷ [])
    (record { role = role_b; weight = 3000 } ∷ [])

abbrev pub weighted_report : Report
weighted_report = record {
  total = reported_cpus 9000;
  nodes =
      line role_a (reported_cpus 1000) (1, 9) 1
      ∷ line (role_a ++ dot) (reported_cpus 1000) (1, 9) 1
      ∷ line (role_a ++ dot ++ codes "fa" ∷ []) (reported_cpus 1000) (1, 9) 1
      ∷ record (line role_b (reported_cpus 3000) (1, 3) 1) { weighted = (1, 9) }
      ∷ line (role_b ++ dot) (reported_cpus 3000) (1, 3) 1
      ∷ line (role_b ++ dot ++ codes "fb" ∷ []) (reported_cpus 3000) (1, 3) 1
      ∷ [];
}

-- a suppressed client that holds nothing, when there are no resources; two clients share a role
abbrev pub nothing_there : Rows
nothing_there = rows_with []
    (record { name = codes "fb"; clients = record { role = role_a; count = 2; suppressed = true } ∷ [] }
    ∷ framework_row (codes "fa") role_a 3
    ∷ [])
    []
    []

abbrev pub nothing_report : Report
nothing_report = record {
  total = [];
  nodes =
      line role_a [] (0, 1) 5
      ∷ line (role_a ++ dot) [] (0, 1) 5
      ∷ line (role_a ++ dot ++ codes "fa" ∷ []) [] (0, 1) 3
      ∷ line (role_a ++ dot ++ codes "fb" ∷ []) [] (0, 1) 2
      ∷ [];
}

-- scalars count over all reservations
abbrev pub reserved_held : Rows
reserved_held = rows_with
    (agent_with (cpus 6000 ∷ cpus_for (codes "a") 2000 ∷ mem 1000 ∷ []) ∷ [])
    (framework_row (codes "fa") role_a 1 ∷ [])
    (holding (codes "fa") role_a (cpus 1000 ∷ cpus_for (codes "a") 2000 ∷ []) ∷ [])
    []

abbrev pub reserved_report : Report
reserved_report = record {
  total = reported_cpus 8000 ++ record { label = codes "mem"; amount = 1000 } ∷ [];
  nodes =
      line role_a (reported_cpus 3000) (3, 8) 1
      ∷ line (role_a ++ dot) (reported_cpus 3000) (3, 8) 1
      ∷ line (role_a ++ dot ++ codes "fa" ∷ []) (reported_cpus 3000) (3, 8) 1
      ∷ [];
}

-- a report at the beginning, and one after a cycle that offered everything
abbrev pub two_reports : List Event
two_reports = event.Report ∷ one_cycle ++ event.Report ∷ []

abbrev pub none_reported : Report
none_reported = record { total = []; nodes = [] }

abbrev pub all_held : List Entry
all_held = reported_cpus 4000 ++ record { label = codes "mem"; amount = 1024000 } ∷ []

abbrev pub all_reported : Report
all_reported = record {
  total = all_held;
  nodes =
      line role_a all_held (1, 1) 1
      ∷ line (role_a ++ dot) all_held (1, 1) 1
      ∷ line (role_a ++ dot ++ codes "f1" ∷ []) all_held (1, 1) 1
      ∷ [];
}

abbrev pub two_reports_replies : List Reply
two_reports_replies =
    reply.Report none_reported
    ∷ Done
    ∷ Done
    ∷ Offers (offer 1 (codes "f1") (codes "a") (codes "n1") (cpus 4000 ∷ mem 1024000 ∷ []) ∷ [])
    ∷ reply.Report all_reported
    ∷ []
