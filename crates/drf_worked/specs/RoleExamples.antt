-- Runs in which the roles of a framework change, with their expected replies and rows.
use Rattle.std.specs.Prelude.{ℕ, Bool, true, false, List, [], ◌∷◌, ◌++◌, codes}
use Rattle.drf_role.specs.Path.{Path}
use Rattle.drf_bundle.specs.declared.quantities.Entry.{Entry}
use Rattle.drf_rows.specs.LimitNumbers.{ceilings}
use Rattle.drf_rows.specs.Step.{opening, rows_after_all}
use Rattle.drf_worked.specs.Examples.{cpus_for, mem, offer}
use Rattle.drf_worked.specs.LifeExamples.{one, none, accept, decline, decline_for}
use Rattle.drf_worked.specs.OrderExamples.{eng, ops, role_a, role_b}
use Rattle.drf_worked.specs.ReportExamples.{reported_cpus, line, dot}
use Rattle.drf_rows.specs.declared.event.Event.{Event}
use Rattle.drf_rows.specs.declared.event.Event.TheVariants as event
use Rattle.drf_rows.specs.declared.event.Event.TheVariants.{AddAgent, AddFramework, SetFramework, Suppress, Cycle}
use Rattle.drf_rows.specs.declared.reply.Refusal.TheVariants.{RoleInUse}
use Rattle.drf_rows.specs.declared.report.NodeLine.{NodeLine}
use Rattle.drf_rows.specs.declared.reply.Reply.{Reply}
use Rattle.drf_rows.specs.declared.reply.Reply.TheVariants as reply
use Rattle.drf_rows.specs.declared.reply.Reply.TheVariants.{Done, Offers, Refused}
use Rattle.drf_rows.specs.declared.rows.ClientRow.{ClientRow}
use Rattle.drf_rows.specs.declared.rows.FrameworkRow.{FrameworkRow}

-- a role is added, and the framework is offered what is reserved for it. It cannot leave the role while it has an offer
-- or a task there. It leaves another role with a filter in force, and takes it again: then there is no filter, and the
-- count is 0. At last it leaves this role for good
abbrev pub roles_set : List Path → Event
roles_set roles = SetFramework (codes "f1") roles

abbrev pub roles_change : List Event
roles_change =
    AddAgent (codes "n1") (cpus_for (codes "eng") 4000 ∷ mem 64000 ∷ [])
    ∷ AddFramework (codes "f1") (ops ∷ [])
    ∷ Cycle 0
    ∷ decline_for (codes "f1") 1 0 5000
    ∷ Cycle 0
    ∷ roles_set (ops ∷ eng ∷ [])
    ∷ Cycle 0
    ∷ roles_set (ops ∷ [])
    ∷ accept (codes "f1") 2 (codes "t") (cpus_for (codes "eng") 1000 ∷ [])
    ∷ roles_set (ops ∷ ops ∷ [])
    ∷ roles_set (eng ∷ ops ∷ [])
    ∷ roles_set (eng ∷ [])
    ∷ roles_set (ops ∷ eng ∷ [])
    ∷ Cycle 0
    ∷ event.Report
    ∷ decline (codes "f1") 3
    ∷ roles_set (eng ∷ [])
    ∷ event.Report
    ∷ []

abbrev reported_mem : ℕ → List Entry
reported_mem amount = record { label = codes "mem"; amount = amount } ∷ []

-- the lines of the nodes of a framework's client
abbrev nodes_of : Path → List Entry → ℕ → List NodeLine
nodes_of role held count =
    line role held (1, 1) count
    ∷ line (role ++ dot) held (1, 1) count
    ∷ line (role ++ dot ++ codes "f1" ∷ []) held (1, 1) count
    ∷ []

abbrev reported_when : List NodeLine → Reply
reported_when nodes = reply.Report (record { total = reported_cpus 4000 ++ reported_mem 64000; nodes = nodes })

abbrev pub roles_change_replies : List Reply
roles_change_replies =
    Done
    ∷ Done
    ∷ one (offer 1 (codes "f1") (codes "ops") (codes "n1") (mem 64000 ∷ []))
    ∷ Done
    ∷ none
    ∷ Done
    ∷ one (offer 2 (codes "f1") (codes "eng") (codes "n1") (cpus_for (codes "eng") 4000 ∷ mem 64000 ∷ []))
    ∷ Refused RoleInUse
    ∷ Done
    ∷ Refused RoleInUse
    ∷ Done
    ∷ Done
    ∷ Done
    ∷ Offers (
    offer 3 (codes "f1") (codes "ops") (codes "n1") (mem 64000 ∷ [])
    ∷ offer 4 (codes "f1") (codes "eng") (codes "n1") (cpus_for (codes "eng") 3000 ∷ [])
    ∷ [])
    ∷ reported_when (nodes_of eng (reported_cpus 4000) 2 ++ nodes_of ops (reported_mem 64000) 1)
    ∷ Done
    ∷ Done
    ∷ reported_when (nodes_of eng (reported_cpus 4000) 2)
    ∷ []

-- clients whose roles stay come first, in the old order and with their suppression; those of new roles follow, in the
-- order of the list and without repetitions. The framework keeps its place before another one
abbrev role_c : Path
role_c = codes "c" ∷ []

abbrev role_d : Path
role_d = codes "d" ∷ []

abbrev role_e : Path
role_e = codes "e" ∷ []

abbrev pub five_roles : List Event
five_roles =
    AddFramework (codes "f1") (role_a ∷ role_b ∷ role_c ∷ [])
    ∷ AddFramework (codes "f2") (role_b ∷ [])
    ∷ Suppress (codes "f1") role_c
    ∷ roles_set (role_d ∷ role_c ∷ role_e ∷ role_a ∷ role_d ∷ [])
    ∷ []

abbrev pub frameworks_after : List Event → List FrameworkRow
frameworks_after events = (rows_after_all ceilings opening events).frameworks

abbrev unoffered : Path → Bool → ClientRow
unoffered role suppressed = record { role = role; count = 0; suppressed = suppressed }

abbrev pub five_roles_rows : List FrameworkRow
five_roles_rows =
    record {
      name = codes "f1";
      clients = unoffered role_a false ∷ unoffered role_c true ∷ unoffered role_d false ∷ unoffered role_e false ∷ [];
    }
    ∷ record { name = codes "f2"; clients = unoffered role_b false ∷ [] }
    ∷ []
