-- Runs that show which clients and agents are affected by filters, suppression and removals.
use Rattle.std.specs.Prelude.{ℕ, List, [], ◌∷◌, codes}
use Rattle.drf_role.specs.Text.{Text}
use Rattle.drf_worked.specs.Examples.{cpus, mem, framework_in, offer}
use Rattle.drf_worked.specs.LifeExamples.{one, none, accept, decline, accept_for, decline_for}
use Rattle.drf_rows.specs.declared.event.Event.{Event}
use Rattle.drf_rows.specs.declared.event.Event.TheVariants.{AddAgent, RemoveAgent, ActivateAgent, DeactivateAgent, AddFramework, RemoveFramework, Rescind, Finish, Suppress, Revive, Cycle}
use Rattle.drf_rows.specs.declared.reply.OfferLine.{OfferLine}
use Rattle.drf_rows.specs.declared.reply.Refusal.TheVariants.{UnknownAgent}
use Rattle.drf_rows.specs.declared.reply.Reply.{Reply}
use Rattle.drf_rows.specs.declared.reply.Reply.TheVariants.{Done, Offers, Refused}

-- an agent with 1 `cpus`, and an offer of all of it
abbrev one_cpu : Text → Event
one_cpu agent = AddAgent agent (cpus 1000 ∷ [])

abbrev cpu_of : Text → ℕ → Text → Text → OfferLine
cpu_of agent number framework role = offer number framework role agent (cpus 1000 ∷ [])

-- a framework registers in two roles
abbrev in_both : Text → Event
in_both framework = AddFramework framework ((codes "a" ∷ []) ∷ (codes "b" ∷ []) ∷ [])

-- a decline at time 0, with a filter for five seconds
abbrev refuse : Text → ℕ → Event
refuse framework number = decline_for framework number 0 5000

abbrev suppress : Text → Text → Event
suppress framework role = Suppress framework (role ∷ [])

abbrev revive : Text → Text → Event
revive framework role = Revive framework (role ∷ [])

-- a filter affects one client on one agent, and suppression affects one client
abbrev pub whose_filter : List Event
whose_filter =
    one_cpu (codes "n1")
    ∷ one_cpu (codes "n2")
    ∷ in_both (codes "f1")
    ∷ framework_in (codes "f2") (codes "a")
    ∷ Cycle 0
    ∷ refuse (codes "f1") 1
    ∷ decline (codes "f1") 2
    ∷ suppress (codes "f2") (codes "a")
    ∷ Cycle 0
    ∷ decline (codes "f1") 3
    ∷ decline (codes "f1") 4
    ∷ suppress (codes "f1") (codes "b")
    ∷ revive (codes "f2") (codes "a")
    ∷ Cycle 0
    ∷ []

abbrev pub whose_filter_replies : List Reply
whose_filter_replies =
    Done
    ∷ Done
    ∷ Done
    ∷ Done
    ∷ Offers (cpu_of (codes "n1") 1 (codes "f1") (codes "a") ∷ cpu_of (codes "n2") 2 (codes "f1") (codes "b") ∷ [])
    ∷ Done
    ∷ Done
    ∷ Done
    ∷ Offers (cpu_of (codes "n1") 3 (codes "f1") (codes "b") ∷ cpu_of (codes "n2") 4 (codes "f1") (codes "a") ∷ [])
    ∷ Done
    ∷ Done
    ∷ Done
    ∷ Done
    ∷ Offers (cpu_of (codes "n1") 5 (codes "f2") (codes "a") ∷ cpu_of (codes "n2") 6 (codes "f1") (codes "a") ∷ [])
    ∷ []

-- an offer of everything on an agent that also has `mem`
abbrev whole : ℕ → OfferLine
whole number = offer number (codes "f1") (codes "a") (codes "n1") (cpus 1000 ∷ mem 64000 ∷ [])

-- from the accept on, the rest of the offer is not offered again, but a bundle that the filter does not cover is
abbrev pub a_rest : List Event
a_rest =
    AddAgent (codes "n1") (cpus 1000 ∷ mem 64000 ∷ [])
    ∷ framework_in (codes "f1") (codes "a")
    ∷ Cycle 0
    ∷ accept_for (codes "f1") 1 ((codes "t", cpus 1000 ∷ []) ∷ []) 2000 5000
    ∷ Cycle 0
    ∷ Finish (codes "f1") (codes "t")
    ∷ Cycle 0
    ∷ accept (codes "f1") 2 (codes "t") (cpus 1000 ∷ [])
    ∷ Finish (codes "f1") (codes "t")
    ∷ Cycle 0
    ∷ accept (codes "f1") 3 (codes "t") (cpus 1000 ∷ [])
    ∷ Cycle 6999
    ∷ Cycle 7000
    ∷ []

abbrev pub a_rest_replies : List Reply
a_rest_replies =
    Done
    ∷ Done
    ∷ one (whole 1)
    ∷ Done
    ∷ none
    ∷ Done
    ∷ one (whole 2)
    ∷ Done
    ∷ Done
    ∷ one (whole 3)
    ∷ Done
    ∷ none
    ∷ one (offer 4 (codes "f1") (codes "a") (codes "n1") (mem 64000 ∷ []))
    ∷ []

-- a decline moves the clock, and its filter begins then
abbrev pub a_later_decline : List Event
a_later_decline =
    one_cpu (codes "n1")
    ∷ framework_in (codes "f1") (codes "a")
    ∷ Cycle 0
    ∷ decline_for (codes "f1") 1 2000 5000
    ∷ Cycle 6999
    ∷ Cycle 7000
    ∷ []

abbrev pub a_later_decline_replies : List Reply
a_later_decline_replies =
    Done
    ∷ Done
    ∷ one (cpu_of (codes "n1") 1 (codes "f1") (codes "a"))
    ∷ Done
    ∷ none
    ∷ one (cpu_of (codes "n1") 2 (codes "f1") (codes "a"))
    ∷ []

-- the capacity is one filter, and one is in force: what sets no filter is accepted; so is the greatest timestamp
abbrev pub at_the_limit : List Event
at_the_limit =
    one_cpu (codes "n1")
    ∷ one_cpu (codes "n2")
    ∷ one_cpu (codes "n3")
    ∷ framework_in (codes "f1") (codes "a")
    ∷ Cycle 0
    ∷ decline_for (codes "f1") 1 0 10
    ∷ decline (codes "f1") 2
    ∷ accept_for (codes "f1") 3 ((codes "t", cpus 1000 ∷ []) ∷ []) 0 10
    ∷ Cycle 4611686018427387904
    ∷ []

abbrev pub at_the_limit_replies : List Reply
at_the_limit_replies =
    Done
    ∷ Done
    ∷ Done
    ∷ Done
    ∷ Offers (
    cpu_of (codes "n1") 1 (codes "f1") (codes "a")
    ∷ cpu_of (codes "n2") 2 (codes "f1") (codes "a")
    ∷ cpu_of (codes "n3") 3 (codes "f1") (codes "a")
    ∷ [])
    ∷ Done
    ∷ Done
    ∷ Done
    ∷ Offers (cpu_of (codes "n1") 4 (codes "f1") (codes "a") ∷ cpu_of (codes "n2") 5 (codes "f1") (codes "a") ∷ [])
    ∷ []

-- a client revives only in its role: the other client of its framework and the other client in its role stay as they
-- are
abbrev pub two_roles : List Event
two_roles =
    one_cpu (codes "n1")
    ∷ in_both (codes "f1")
    ∷ framework_in (codes "f2") (codes "a")
    ∷ Cycle 0
    ∷ suppress (codes "f2") (codes "a")
    ∷ suppress (codes "f1") (codes "b")
    ∷ suppress (codes "f1") (codes "a")
    ∷ refuse (codes "f1") 1
    ∷ Cycle 0
    ∷ revive (codes "f1") (codes "b")
    ∷ Cycle 0
    ∷ refuse (codes "f1") 2
    ∷ Cycle 0
    ∷ revive (codes "f1") (codes "a")
    ∷ Cycle 0
    ∷ refuse (codes "f1") 3
    ∷ Cycle 0
    ∷ revive (codes "f2") (codes "a")
    ∷ Cycle 0
    ∷ refuse (codes "f2") 4
    ∷ revive (codes "f1") (codes "b")
    ∷ Cycle 0
    ∷ []

abbrev pub two_roles_replies : List Reply
two_roles_replies =
    Done
    ∷ Done
    ∷ Done
    ∷ one (cpu_of (codes "n1") 1 (codes "f1") (codes "a"))
    ∷ Done
    ∷ Done
    ∷ Done
    ∷ Done
    ∷ none
    ∷ Done
    ∷ one (cpu_of (codes "n1") 2 (codes "f1") (codes "b"))
    ∷ Done
    ∷ none
    ∷ Done
    ∷ one (cpu_of (codes "n1") 3 (codes "f1") (codes "a"))
    ∷ Done
    ∷ none
    ∷ Done
    ∷ one (cpu_of (codes "n1") 4 (codes "f2") (codes "a"))
    ∷ Done
    ∷ Done
    ∷ one (cpu_of (codes "n1") 5 (codes "f1") (codes "b"))
    ∷ []

-- filters stay when their agent is deactivated, and when another framework revives in the same role
abbrev pub one_role_revives : List Event
one_role_revives =
    one_cpu (codes "n1")
    ∷ in_both (codes "f1")
    ∷ suppress (codes "f1") (codes "a")
    ∷ suppress (codes "f1") (codes "b")
    ∷ revive (codes "f1") (codes "b")
    ∷ Cycle 0
    ∷ refuse (codes "f1") 1
    ∷ DeactivateAgent (codes "n1")
    ∷ ActivateAgent (codes "n1")
    ∷ Cycle 0
    ∷ framework_in (codes "f2") (codes "b")
    ∷ revive (codes "f2") (codes "b")
    ∷ Cycle 0
    ∷ decline (codes "f2") 2
    ∷ suppress (codes "f2") (codes "b")
    ∷ Cycle 0
    ∷ []

abbrev pub one_role_revives_replies : List Reply
one_role_revives_replies =
    Done
    ∷ Done
    ∷ Done
    ∷ Done
    ∷ Done
    ∷ one (cpu_of (codes "n1") 1 (codes "f1") (codes "b"))
    ∷ Done
    ∷ Done
    ∷ Done
    ∷ none
    ∷ Done
    ∷ Done
    ∷ one (cpu_of (codes "n1") 2 (codes "f2") (codes "b"))
    ∷ Done
    ∷ Done
    ∷ none
    ∷ []

-- removals affect only what belongs to the removed; tasks stay when their agent is deactivated, and each framework has
-- its own task names
abbrev pub who_leaves : List Event
who_leaves =
    one_cpu (codes "n1")
    ∷ one_cpu (codes "n2")
    ∷ framework_in (codes "f1") (codes "a")
    ∷ framework_in (codes "f2") (codes "b")
    ∷ Cycle 0
    ∷ accept (codes "f1") 1 (codes "t") (cpus 1000 ∷ [])
    ∷ accept (codes "f2") 2 (codes "t") (cpus 1000 ∷ [])
    ∷ DeactivateAgent (codes "n1")
    ∷ Finish (codes "f1") (codes "t")
    ∷ Finish (codes "f2") (codes "t")
    ∷ ActivateAgent (codes "n1")
    ∷ Cycle 0
    ∷ refuse (codes "f1") 3
    ∷ refuse (codes "f2") 4
    ∷ RemoveAgent (codes "n1")
    ∷ RemoveAgent (codes "n1")
    ∷ Cycle 0
    ∷ Rescind 5
    ∷ Cycle 0
    ∷ RemoveFramework (codes "f1")
    ∷ Cycle 0
    ∷ framework_in (codes "f1") (codes "a")
    ∷ Cycle 0
    ∷ []

abbrev pub who_leaves_replies : List Reply
who_leaves_replies =
    Done
    ∷ Done
    ∷ Done
    ∷ Done
    ∷ Offers (cpu_of (codes "n1") 1 (codes "f1") (codes "a") ∷ cpu_of (codes "n2") 2 (codes "f2") (codes "b") ∷ [])
    ∷ Done
    ∷ Done
    ∷ Done
    ∷ Done
    ∷ Done
    ∷ Done
    ∷ Offers (cpu_of (codes "n1") 3 (codes "f1") (codes "a") ∷ cpu_of (codes "n2") 4 (codes "f2") (codes "b") ∷ [])
    ∷ Done
    ∷ Done
    ∷ Done
    ∷ Refused UnknownAgent
    ∷ one (cpu_of (codes "n2") 5 (codes "f1") (codes "a"))
    ∷ Done
    ∷ one (cpu_of (codes "n2") 6 (codes "f1") (codes "a"))
    ∷ Done
    ∷ none
    ∷ Done
    ∷ one (cpu_of (codes "n2") 7 (codes "f1") (codes "a"))
    ∷ []
