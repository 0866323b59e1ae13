-- Runs with limits, reservations and changed totals.
use Rattle.std.specs.Prelude.{ℕ, List, [], ◌∷◌, ◌++◌, codes}
use Rattle.drf_role.specs.Text.{Text}
use Rattle.drf_role.specs.Path.{Path}
use Rattle.drf_role.specs.Role.{default_role}
use Rattle.drf_bundle.specs.declared.quantities.Entry.{Entry}
use Rattle.drf_bundle.specs.declared.resource.Resource.{Resource}
use Rattle.drf_bundle.specs.declared.value.Value.TheVariants.{Scalar}
use Rattle.drf_rows.specs.LimitNumbers.{LimitNumbers, ceilings}
use Rattle.drf_worked.specs.Examples.{cpus, cpus_for, mem, gpus, framework_in, offer}
use Rattle.drf_worked.specs.OrderExamples.{eng, eng_web, role_a, role_b}
use Rattle.drf_worked.specs.ReportExamples.{reported_cpus, line, dot}
use Rattle.drf_worked.specs.LifeExamples.{one, none, accept, decline, decline_for, offer_of_n1}
use Rattle.drf_rows.specs.declared.event.Event.{Event}
use Rattle.drf_rows.specs.declared.event.Event.TheVariants as event
use Rattle.drf_rows.specs.declared.event.Event.TheVariants.{AddAgent, SetAgent, AddFramework, Reserve, Unreserve, SetLimit, Cycle}
use Rattle.drf_rows.specs.declared.reply.OfferLine.{OfferLine}
use Rattle.drf_rows.specs.declared.reply.Refusal.TheVariants.{UnknownAgent, DefaultRole, Empty, NotUnreserved, NotCovered, OverLimit, TooLarge, TooMany}
use Rattle.drf_rows.specs.declared.report.Report.{Report}
use Rattle.drf_rows.specs.declared.reply.Reply.{Reply}
use Rattle.drf_rows.specs.declared.reply.Reply.TheVariants as reply
use Rattle.drf_rows.specs.declared.reply.Reply.TheVariants.{Done, Offers, Refused}

-- a limit of so many thousandths of `cpus`
abbrev pub cpus_limit : Path → ℕ → Event
cpus_limit role amount = SetLimit role (reported_cpus amount)

-- an offer to a framework in any role
abbrev pub offer_in : ℕ → Text → Path → Text → List Resource → OfferLine
offer_in number framework role agent resources =
    record { number = number; agent = agent; framework = framework; role = role; resources = resources }

-- so many thousandths of `cpus`, reserved for any role
abbrev pub cpus_in : Path → ℕ → Resource
cpus_in role amount = record { label = codes "cpus"; role = role; value = Scalar amount }

abbrev pub mem_in : Path → ℕ → Resource
mem_in role amount = record { label = codes "mem"; role = role; value = Scalar amount }

-- a limit of 0 keeps all `cpus` from being offered, until it is removed
abbrev pub no_cpus : List Event
no_cpus =
    AddAgent (codes "n1") (cpus 4000 ∷ mem 1024000 ∷ [])
    ∷ framework_in (codes "f1") (codes "a")
    ∷ cpus_limit role_a 0
    ∷ Cycle 0
    ∷ SetLimit role_a []
    ∷ Cycle 0
    ∷ []

abbrev pub no_cpus_replies : List Reply
no_cpus_replies =
    Done
    ∷ Done
    ∷ Done
    ∷ one (offer 1 (codes "f1") (codes "a") (codes "n1") (mem 1024000 ∷ []))
    ∷ Done
    ∷ one (offer 2 (codes "f1") (codes "a") (codes "n1") (cpus 4000 ∷ []))
    ∷ []

-- a grant on one agent counts for the next agent of the same cycle
abbrev pub limit_in_cycle : List Event
limit_in_cycle =
    AddAgent (codes "n0") (cpus 4000 ∷ mem 1024000 ∷ [])
    ∷ framework_in (codes "fb") (codes "b")
    ∷ Cycle 0
    ∷ accept (codes "fb") 1 (codes "t") (cpus 4000 ∷ mem 1024000 ∷ [])
    ∷ AddAgent (codes "n1") (cpus 2000 ∷ mem 1024000 ∷ [])
    ∷ AddAgent (codes "n2") (cpus 2000 ∷ mem 1024000 ∷ [])
    ∷ framework_in (codes "fa") (codes "a")
    ∷ cpus_limit role_a 3000
    ∷ Cycle 0
    ∷ []

abbrev pub limit_in_cycle_replies : List Reply
limit_in_cycle_replies =
    Done
    ∷ Done
    ∷ one (offer 1 (codes "fb") (codes "b") (codes "n0") (cpus 4000 ∷ mem 1024000 ∷ []))
    ∷ Done
    ∷ Done
    ∷ Done
    ∷ Done
    ∷ Done
    ∷ Offers (
    offer 2 (codes "fa") (codes "a") (codes "n1") (cpus 2000 ∷ mem 1024000 ∷ [])
    ∷ offer 3 (codes "fa") (codes "a") (codes "n2") (cpus 1000 ∷ mem 1024000 ∷ [])
    ∷ offer 4 (codes "fb") (codes "b") (codes "n2") (cpus 1000 ∷ [])
    ∷ [])
    ∷ []

-- reservations below a role count against its limit, and can be undone only while they are free
abbrev pub reserved_below : List Event
reserved_below =
    AddAgent (codes "n1") (cpus_for (codes "eng") 4000 ∷ mem 64000 ∷ [])
    ∷ framework_in (codes "f2") (codes "ops")
    ∷ Cycle 0
    ∷ AddFramework (codes "f1") (eng_web ∷ [])
    ∷ Cycle 0
    ∷ cpus_limit eng 5000
    ∷ AddAgent (codes "n2") (cpus 2000 ∷ [])
    ∷ Reserve (codes "n2") eng_web (cpus 2000 ∷ [])
    ∷ Reserve (codes "n2") eng_web (cpus 1000 ∷ [])
    ∷ Cycle 0
    ∷ Unreserve (codes "n2") eng_web (cpus 1000 ∷ [])
    ∷ decline (codes "f1") 3
    ∷ Unreserve (codes "n2") eng_web (cpus 1000 ∷ [])
    ∷ []

abbrev pub reserved_below_replies : List Reply
reserved_below_replies =
    Done
    ∷ Done
    ∷ one (offer 1 (codes "f2") (codes "ops") (codes "n1") (mem 64000 ∷ []))
    ∷ Done
    ∷ one (offer_in 2 (codes "f1") eng_web (codes "n1") (cpus_for (codes "eng") 4000 ∷ []))
    ∷ Done
    ∷ Done
    ∷ Refused OverLimit
    ∷ Done
    ∷ Offers (
    offer_in 3 (codes "f1") eng_web (codes "n2") (cpus_in eng_web 1000 ∷ [])
    ∷ offer 4 (codes "f2") (codes "ops") (codes "n2") (cpus 1000 ∷ [])
    ∷ [])
    ∷ Refused NotCovered
    ∷ Done
    ∷ Done
    ∷ []

-- the least of the limits of a role and of the one above it decides; a limit below the consumption takes nothing away
abbrev pub two_limits : List Event
two_limits =
    cpus_limit eng 4000
    ∷ cpus_limit eng_web 9000
    ∷ AddAgent (codes "n1") (cpus 6000 ∷ mem 64000 ∷ [])
    ∷ AddFramework (codes "f2") (eng_web ∷ [])
    ∷ framework_in (codes "f3") (codes "ops")
    ∷ Cycle 0
    ∷ cpus_limit eng 1000
    ∷ decline (codes "f2") 1
    ∷ Cycle 0
    ∷ []

abbrev pub two_limits_replies : List Reply
two_limits_replies =
    Done
    ∷ Done
    ∷ Done
    ∷ Done
    ∷ Done
    ∷ Offers (
    offer_in 1 (codes "f2") eng_web (codes "n1") (cpus 4000 ∷ mem 64000 ∷ [])
    ∷ offer 2 (codes "f3") (codes "ops") (codes "n1") (cpus 2000 ∷ [])
    ∷ [])
    ∷ Done
    ∷ Done
    ∷ Offers (
    offer_in 3 (codes "f2") eng_web (codes "n1") (cpus 1000 ∷ mem 64000 ∷ [])
    ∷ offer 4 (codes "f3") (codes "ops") (codes "n1") (cpus 3000 ∷ [])
    ∷ [])
    ∷ []

-- unreserved resources can be reserved again, within the limit
abbrev pub moved_twice : List Event
moved_twice =
    AddAgent (codes "n1") (cpus_for (codes "eng") 4000 ∷ [])
    ∷ cpus_limit eng 4000
    ∷ Unreserve (codes "n1") eng (cpus 1000 ∷ [])
    ∷ Reserve (codes "n1") eng (cpus 2000 ∷ [])
    ∷ Reserve (codes "n1") eng (cpus 1000 ∷ [])
    ∷ AddAgent (codes "n2") (cpus 1000 ∷ [])
    ∷ Reserve (codes "n2") eng_web (cpus 1000 ∷ [])
    ∷ AddFramework (codes "f1") (eng_web ∷ [])
    ∷ Cycle 0
    ∷ []

abbrev pub moved_twice_replies : List Reply
moved_twice_replies =
    Done
    ∷ Done
    ∷ Done
    ∷ Refused NotCovered
    ∷ Done
    ∷ Done
    ∷ Refused OverLimit
    ∷ Done
    ∷ one (offer_in 1 (codes "f1") eng_web (codes "n1") (cpus_for (codes "eng") 4000 ∷ []))
    ∷ []

-- limits never refuse an agent's total, neither when it registers nor later; the limits of roles above restrict a
-- reservation, and those of roles below do not
abbrev pub beyond_limit : List Event
beyond_limit =
    cpus_limit eng 1000
    ∷ AddAgent (codes "n1") (cpus_for (codes "eng") 3000 ∷ mem 64000 ∷ [])
    ∷ SetAgent (codes "n1") (cpus 1000 ∷ cpus_for (codes "eng") 4000 ∷ mem 128000 ∷ [])
    ∷ SetLimit eng_web (record { label = codes "mem"; amount = 0 } ∷ [])
    ∷ Reserve (codes "n1") eng (mem 64000 ∷ [])
    ∷ framework_in (codes "f1") (codes "eng")
    ∷ Cycle 0
    ∷ []

abbrev pub beyond_limit_replies : List Reply
beyond_limit_replies =
    Done
    ∷ Done
    ∷ Done
    ∷ Done
    ∷ Done
    ∷ Done
    ∷ one (offer 1 (codes "f1") (codes "eng") (codes "n1") (cpus_for (codes "eng") 4000 ∷ mem 64000 ∷ mem_in eng 64000 ∷ []))
    ∷ []

-- a filter of a cut offer covers the same cut offer
abbrev pub cut_and_declined : List Event
cut_and_declined =
    AddAgent (codes "n1") (cpus 4000 ∷ [])
    ∷ framework_in (codes "f1") (codes "a")
    ∷ cpus_limit role_a 1000
    ∷ Cycle 0
    ∷ decline_for (codes "f1") 1 0 5000
    ∷ Cycle 0
    ∷ Cycle 5000
    ∷ []

abbrev pub cut_and_declined_replies : List Reply
cut_and_declined_replies = Done ∷ Done ∷ Done ∷ one (offer_of_n1 1) ∷ Done ∷ none ∷ one (offer_of_n1 2) ∷ []

-- an agent's total changes while resources are held there, and the shares change with it
abbrev pub other_totals : List Event
other_totals =
    AddAgent (codes "n1") (cpus 4000 ∷ mem 1024000 ∷ [])
    ∷ framework_in (codes "fa") (codes "a")
    ∷ framework_in (codes "fb") (codes "b")
    ∷ Cycle 0
    ∷ accept (codes "fa") 1 (codes "t") (cpus 2000 ∷ [])
    ∷ SetAgent (codes "n9") []
    ∷ SetAgent (codes "n1") (cpus 1000 ∷ mem 64000 ∷ [])
    ∷ SetAgent (codes "n1") (cpus 2000 ∷ [])
    ∷ event.Report
    ∷ SetAgent (codes "n1") (cpus 8000 ∷ cpus_for (codes "b") 1000 ∷ mem 64000 ∷ [])
    ∷ Cycle 0
    ∷ event.Report
    ∷ decline (codes "fb") 2
    ∷ SetAgent (codes "n1") (cpus 1099511627776 ∷ [])
    ∷ []

-- a report about two frameworks
abbrev pub two_reported : List Entry → List Entry → ℕ × ℕ → List Entry → ℕ × ℕ → ℕ → Report
two_reported total held_a share_a held_b share_b count_b = record {
  total = total;
  nodes =
      line role_a held_a share_a 1
      ∷ line (role_a ++ dot) held_a share_a 1
      ∷ line (role_a ++ dot ++ codes "fa" ∷ []) held_a share_a 1
      ∷ line role_b held_b share_b count_b
      ∷ line (role_b ++ dot) held_b share_b count_b
      ∷ line (role_b ++ dot ++ codes "fb" ∷ []) held_b share_b count_b
      ∷ [];
}

abbrev pub reported_mem : ℕ → List Entry
reported_mem amount = record { label = codes "mem"; amount = amount } ∷ []

abbrev pub other_totals_replies : List Reply
other_totals_replies =
    Done
    ∷ Done
    ∷ Done
    ∷ one (offer 1 (codes "fa") (codes "a") (codes "n1") (cpus 4000 ∷ mem 1024000 ∷ []))
    ∷ Done
    ∷ Refused UnknownAgent
    ∷ Refused NotCovered
    ∷ Done
    ∷ reply.Report (two_reported (reported_cpus 2000) (reported_cpus 2000) (1, 1) [] (0, 1) 0)
    ∷ Done
    ∷ one (offer 2 (codes "fb") (codes "b") (codes "n1") (cpus 6000 ∷ cpus_for (codes "b") 1000 ∷ mem 64000 ∷ []))
    ∷ reply.Report (two_reported (reported_cpus 9000 ++ reported_mem 64000) (reported_cpus 2000) (2, 9) (reported_cpus 7000 ++ reported_mem 64000) (1, 1) 1)
    ∷ Done
    ∷ Refused TooLarge
    ∷ []

-- each refusal, one at a time
abbrev pub limits_refused : List Event
limits_refused =
    AddAgent (codes "n1") (cpus 2000 ∷ mem 64000 ∷ [])
    ∷ cpus_limit default_role 1000
    ∷ Reserve (codes "n9") role_a (cpus 1000 ∷ [])
    ∷ Reserve (codes "n1") default_role (cpus 1000 ∷ [])
    ∷ Reserve (codes "n1") role_a []
    ∷ Reserve (codes "n1") role_a (cpus_for (codes "b") 1000 ∷ [])
    ∷ Reserve (codes "n1") role_a (cpus 3000 ∷ [])
    ∷ Unreserve (codes "n9") role_a (cpus 1000 ∷ [])
    ∷ Unreserve (codes "n1") default_role (cpus 1000 ∷ [])
    ∷ Unreserve (codes "n1") role_a []
    ∷ Unreserve (codes "n1") role_a (cpus_for (codes "a") 1000 ∷ [])
    ∷ Unreserve (codes "n1") role_a (cpus 1000 ∷ [])
    ∷ []

abbrev pub limits_refused_replies : List Reply
limits_refused_replies =
    Done
    ∷ Refused DefaultRole
    ∷ Refused UnknownAgent
    ∷ Refused DefaultRole
    ∷ Refused Empty
    ∷ Refused NotUnreserved
    ∷ Refused NotCovered
    ∷ Refused UnknownAgent
    ∷ Refused DefaultRole
    ∷ Refused Empty
    ∷ Refused NotUnreserved
    ∷ Refused NotCovered
    ∷ []

-- the capacity is one limit and two names of scalars: replacing or removing a limit needs no other row
abbrev pub one_limit : LimitNumbers
one_limit = record ceilings { limits = 1; scalar_names = 2 }

abbrev pub more_limits : List Event
more_limits =
    cpus_limit role_a 1000
    ∷ cpus_limit role_b 1000
    ∷ cpus_limit role_a 2000
    ∷ SetLimit role_b []
    ∷ SetLimit role_a (reported_cpus 0 ++ record { label = codes "gpus"; amount = 0 } ∷ reported_mem 0)
    ∷ SetLimit role_a (reported_cpus 1000 ++ reported_mem 1000)
    ∷ SetLimit role_a []
    ∷ cpus_limit role_b 1000
    ∷ AddAgent (codes "n1") (cpus 1000 ∷ mem 1000 ∷ [])
    ∷ SetAgent (codes "n1") (cpus 1000 ∷ gpus 1000 ∷ mem 1000 ∷ [])
    ∷ SetAgent (codes "n1") (gpus 1000 ∷ mem 1000 ∷ [])
    ∷ []

abbrev pub more_limits_replies : List Reply
more_limits_replies =
    Done
    ∷ Refused TooMany
    ∷ Done
    ∷ Done
    ∷ Refused TooMany
    ∷ Done
    ∷ Done
    ∷ Done
    ∷ Done
    ∷ Refused TooMany
    ∷ Done
    ∷ []
