-- Runs in which offers are accepted and declined, tasks finish, and agents and frameworks are removed.
use Rattle.std.specs.Prelude.{ℕ, List, [], ◌∷◌, ◌++◌, codes}
use Rattle.drf_role.specs.Text.{Text}
use Rattle.drf_bundle.specs.declared.resource.Resource.{Resource}
use Rattle.drf_rows.specs.LimitNumbers.{LimitNumbers, ceilings}
use Rattle.drf_worked.specs.Examples.{cpus, mem, framework_in, offer}
use Rattle.drf_worked.specs.OrderExamples.{role_a}
use Rattle.drf_worked.specs.ReportExamples.{line, dot, none_reported}
use Rattle.drf_rows.specs.Tasks.{Start}
use Rattle.drf_rows.specs.declared.event.Event.{Event}
use Rattle.drf_rows.specs.declared.event.Event.TheVariants as event
use Rattle.drf_rows.specs.declared.event.Event.TheVariants.{AddAgent, RemoveAgent, ActivateAgent, DeactivateAgent, RemoveFramework, Accept, Decline, Rescind, Finish, Suppress, Revive, Cycle}
use Rattle.drf_rows.specs.declared.reply.Refusal.TheVariants.{BadMoment, UnknownAgent, KnownAgent, UnknownFramework, KnownFramework, UnknownOffer, NotYours, UnknownTask, KnownTask, NotInRole, Empty, NotCovered, TooMany}
use Rattle.drf_rows.specs.declared.reply.OfferLine.{OfferLine}
use Rattle.drf_rows.specs.declared.report.Report.{Report}
use Rattle.drf_rows.specs.declared.reply.Reply.{Reply}
use Rattle.drf_rows.specs.declared.reply.Reply.TheVariants as reply
use Rattle.drf_rows.specs.declared.reply.Reply.TheVariants.{Done, Offers, Refused}

-- the reply to a cycle that makes one offer, or none
abbrev pub one : OfferLine → Reply
one line = Offers (line ∷ [])

abbrev pub none : Reply
none = Offers []

-- an accept at a time, with a filter for a time
abbrev pub accept_for : Text → ℕ → List Start → ℕ → ℕ → Event
accept_for framework number tasks at refuse_ms =
    Accept (record { framework = framework; offer = number; tasks = tasks; at = at; refuse_ms = refuse_ms })

abbrev pub decline_for : Text → ℕ → ℕ → ℕ → Event
decline_for framework number at refuse_ms =
    Decline (record { framework = framework; offer = number; at = at; refuse_ms = refuse_ms })

-- an accept at time 0, without a filter
abbrev pub accept : Text → ℕ → Text → List Resource → Event
accept framework number task used = accept_for framework number ((task, used) ∷ []) 0 0

abbrev pub decline : Text → ℕ → Event
decline framework number = decline_for framework number 0 0

-- an offer of everything on an agent that has 1 `cpus`
abbrev pub offer_of_n1 : ℕ → OfferLine
offer_of_n1 number = offer number (codes "f1") (codes "a") (codes "n1") (cpus 1000 ∷ [])

-- what a task uses is offered again after it has finished
abbrev pub a_task : List Event
a_task =
    AddAgent (codes "n1") (cpus 1000 ∷ mem 64000 ∷ [])
    ∷ framework_in (codes "f1") (codes "a")
    ∷ Cycle 0
    ∷ accept (codes "f1") 1 (codes "t") (cpus 1000 ∷ [])
    ∷ Cycle 0
    ∷ Finish (codes "f1") (codes "t")
    ∷ Finish (codes "f1") (codes "t")
    ∷ decline (codes "f1") 2
    ∷ Cycle 0
    ∷ AddAgent (codes "n1") (cpus 5000 ∷ [])
    ∷ []

abbrev pub a_task_replies : List Reply
a_task_replies =
    Done
    ∷ Done
    ∷ one (offer 1 (codes "f1") (codes "a") (codes "n1") (cpus 1000 ∷ mem 64000 ∷ []))
    ∷ Done
    ∷ one (offer 2 (codes "f1") (codes "a") (codes "n1") (mem 64000 ∷ []))
    ∷ Done
    ∷ Refused UnknownTask
    ∷ Done
    ∷ one (offer 3 (codes "f1") (codes "a") (codes "n1") (cpus 1000 ∷ mem 64000 ∷ []))
    ∷ Refused KnownAgent
    ∷ []

-- an offer starts several tasks, or none
abbrev pub accept_two : List Resource → List Resource → Event
accept_two first second =
    accept_for (codes "f1") 1 ((codes "t1", first) ∷ (codes "t2", second) ∷ []) 0 0

abbrev pub two_tasks : List Event
two_tasks =
    AddAgent (codes "n1") (cpus 4000 ∷ [])
    ∷ framework_in (codes "f1") (codes "a")
    ∷ Cycle 0
    ∷ accept_two (cpus 3000 ∷ []) (cpus 2000 ∷ [])
    ∷ accept_for (codes "f1") 1 ((codes "t1", cpus 1000 ∷ []) ∷ (codes "t1", cpus 1000 ∷ []) ∷ []) 0 0
    ∷ accept_two (cpus 1000 ∷ []) []
    ∷ accept_two (cpus 1000 ∷ []) (cpus 2000 ∷ [])
    ∷ Cycle 0
    ∷ Finish (codes "f1") (codes "t1")
    ∷ decline (codes "f1") 2
    ∷ Cycle 0
    ∷ []

abbrev pub two_tasks_replies : List Reply
two_tasks_replies =
    Done
    ∷ Done
    ∷ one (offer 1 (codes "f1") (codes "a") (codes "n1") (cpus 4000 ∷ []))
    ∷ Refused NotCovered
    ∷ Refused KnownTask
    ∷ Refused Empty
    ∷ Done
    ∷ one (offer_of_n1 2)
    ∷ Done
    ∷ Done
    ∷ one (offer 3 (codes "f1") (codes "a") (codes "n1") (cpus 2000 ∷ []))
    ∷ []

-- declined resources are offered to another client, and again to the first when its filter ends
abbrev pub a_filter : List Event
a_filter =
    AddAgent (codes "n1") (cpus 2000 ∷ mem 512000 ∷ [])
    ∷ framework_in (codes "fa") (codes "a")
    ∷ framework_in (codes "fb") (codes "b")
    ∷ Cycle 1000
    ∷ decline_for (codes "fa") 1 1000 5000
    ∷ Cycle 2000
    ∷ accept (codes "fb") 2 (codes "t") (cpus 1000 ∷ [])
    ∷ Cycle 5999
    ∷ decline (codes "fb") 3
    ∷ Cycle 6000
    ∷ []

abbrev pub a_filter_replies : List Reply
a_filter_replies =
    Done
    ∷ Done
    ∷ Done
    ∷ one (offer 1 (codes "fa") (codes "a") (codes "n1") (cpus 2000 ∷ mem 512000 ∷ []))
    ∷ Done
    ∷ one (offer 2 (codes "fb") (codes "b") (codes "n1") (cpus 2000 ∷ mem 512000 ∷ []))
    ∷ Done
    ∷ one (offer 3 (codes "fb") (codes "b") (codes "n1") (cpus 1000 ∷ mem 512000 ∷ []))
    ∷ Done
    ∷ one (offer 4 (codes "fa") (codes "a") (codes "n1") (cpus 1000 ∷ mem 512000 ∷ []))
    ∷ []

-- the time of a filter begins at the clock, which a cycle with an earlier timestamp does not move back
abbrev pub a_clock : List Event
a_clock =
    AddAgent (codes "n1") (cpus 1000 ∷ [])
    ∷ framework_in (codes "f1") (codes "a")
    ∷ Cycle 7000
    ∷ decline_for (codes "f1") 1 2000 5000
    ∷ Cycle 11999
    ∷ Cycle 3
    ∷ Cycle 12000
    ∷ []

abbrev pub a_clock_replies : List Reply
a_clock_replies = Done ∷ Done ∷ one (offer_of_n1 1) ∷ Done ∷ none ∷ none ∷ one (offer_of_n1 2) ∷ []

-- no filter lasts longer than 365 days
abbrev pub a_year : List Event
a_year =
    AddAgent (codes "n1") (cpus 1000 ∷ [])
    ∷ framework_in (codes "f1") (codes "a")
    ∷ Cycle 0
    ∷ decline_for (codes "f1") 1 0 18446744073709551615
    ∷ Cycle 31535999999
    ∷ Cycle 31536000000
    ∷ []

abbrev pub a_year_replies : List Reply
a_year_replies = Done ∷ Done ∷ one (offer_of_n1 1) ∷ Done ∷ none ∷ one (offer_of_n1 2) ∷ []

-- agents and clients become inactive and active again, and are removed
abbrev pub taking_part : List Event
taking_part =
    AddAgent (codes "n1") (cpus 1000 ∷ [])
    ∷ framework_in (codes "f1") (codes "a")
    ∷ Cycle 0
    ∷ DeactivateAgent (codes "n1")
    ∷ Cycle 0
    ∷ accept (codes "f1") 1 (codes "t") (cpus 1000 ∷ [])
    ∷ ActivateAgent (codes "n1")
    ∷ Suppress (codes "f1") (codes "a" ∷ [])
    ∷ Cycle 0
    ∷ Revive (codes "f1") (codes "a" ∷ [])
    ∷ Cycle 0
    ∷ decline_for (codes "f1") 2 0 5000
    ∷ Cycle 0
    ∷ Revive (codes "f1") (codes "a" ∷ [])
    ∷ Cycle 0
    ∷ Rescind 3
    ∷ RemoveAgent (codes "n1")
    ∷ event.Report
    ∷ RemoveFramework (codes "f1")
    ∷ event.Report
    ∷ []

-- the report about a framework that has received three offers, when there are no resources
abbrev all_gone : Report
all_gone = record {
  total = [];
  nodes =
      line role_a [] (0, 1) 3
      ∷ line (role_a ++ dot) [] (0, 1) 3
      ∷ line (role_a ++ dot ++ codes "f1" ∷ []) [] (0, 1) 3
      ∷ [];
}

abbrev pub taking_part_replies : List Reply
taking_part_replies =
    Done
    ∷ Done
    ∷ one (offer_of_n1 1)
    ∷ Done
    ∷ none
    ∷ Refused UnknownOffer
    ∷ Done
    ∷ Done
    ∷ none
    ∷ Done
    ∷ one (offer_of_n1 2)
    ∷ Done
    ∷ none
    ∷ Done
    ∷ one (offer_of_n1 3)
    ∷ Done
    ∷ Done
    ∷ reply.Report all_gone
    ∷ Done
    ∷ reply.Report none_reported
    ∷ []

-- each refusal, one at a time
abbrev pub refused : List Event
refused =
    AddAgent (codes "n1") (cpus 2000 ∷ mem 64000 ∷ [])
    ∷ framework_in (codes "f1") (codes "a")
    ∷ framework_in (codes "f2") (codes "b")
    ∷ Cycle 0
    ∷ RemoveAgent (codes "n9")
    ∷ Finish (codes "f9") (codes "t")
    ∷ framework_in (codes "f1") (codes "c")
    ∷ decline (codes "f1") 7
    ∷ decline (codes "f2") 1
    ∷ Finish (codes "f1") (codes "t")
    ∷ Suppress (codes "f1") (codes "b" ∷ [])
    ∷ accept (codes "f1") 1 (codes "t") []
    ∷ accept (codes "f1") 1 (codes "t") (cpus 3000 ∷ [])
    ∷ decline_for (codes "f1") 1 4611686018427387905 0
    ∷ Suppress (codes "f2") (codes "b" ∷ [])
    ∷ accept (codes "f1") 1 (codes "t") (cpus 1000 ∷ [])
    ∷ Cycle 0
    ∷ accept (codes "f1") 2 (codes "t") (cpus 1000 ∷ [])
    ∷ []

abbrev pub refused_replies : List Reply
refused_replies =
    Done
    ∷ Done
    ∷ Done
    ∷ one (offer 1 (codes "f1") (codes "a") (codes "n1") (cpus 2000 ∷ mem 64000 ∷ []))
    ∷ Refused UnknownAgent
    ∷ Refused UnknownFramework
    ∷ Refused KnownFramework
    ∷ Refused UnknownOffer
    ∷ Refused NotYours
    ∷ Refused UnknownTask
    ∷ Refused NotInRole
    ∷ Refused Empty
    ∷ Refused NotCovered
    ∷ Refused BadMoment
    ∷ Done
    ∷ Done
    ∷ one (offer 2 (codes "f1") (codes "a") (codes "n1") (cpus 1000 ∷ mem 64000 ∷ []))
    ∷ Refused KnownTask
    ∷ []

-- only filters in force count for the capacity
abbrev pub one_filter : LimitNumbers
one_filter = record ceilings { filters = 1 }

abbrev pub two_filters : List Event
two_filters =
    AddAgent (codes "n1") (cpus 1000 ∷ [])
    ∷ AddAgent (codes "n2") (cpus 2000 ∷ [])
    ∷ framework_in (codes "f1") (codes "a")
    ∷ Cycle 0
    ∷ decline_for (codes "f1") 1 0 10
    ∷ decline_for (codes "f1") 2 9 10
    ∷ accept_for (codes "f1") 2 ((codes "t", cpus 1000 ∷ []) ∷ []) 9 10
    ∷ accept_for (codes "f1") 2 ((codes "t", cpus 1000 ∷ []) ∷ []) 10 10
    ∷ []

abbrev pub two_filters_replies : List Reply
two_filters_replies =
    Done
    ∷ Done
    ∷ Done
    ∷ Offers (offer_of_n1 1 ∷ offer 2 (codes "f1") (codes "a") (codes "n2") (cpus 2000 ∷ []) ∷ [])
    ∷ Done
    ∷ Refused TooMany
    ∷ Refused TooMany
    ∷ Done
    ∷ []
