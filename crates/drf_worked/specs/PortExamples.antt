-- Runs with any sets of ports. They are not scalars: limits do not cut them, and tasks and reservations share no
-- number.
use Rattle.std.specs.Prelude.{◌≡◌, ℕ, ◌<◌, IsTrue, List, [], ◌∷◌, ◌++◌, codes}
use Rattle.std.specs.Ordering.{nat_cmp}
use Rattle.std.specs.FinSet as set
use Rattle.drf_role.specs.Role.{default_role}
use Rattle.drf_bundle.specs.declared.resource.Resource.{Resource}
use Rattle.drf_bundle.specs.declared.value.Value.TheVariants.{Ranges}
use Rattle.drf_rows.specs.LimitNumbers.{ceilings}
use Rattle.drf_rows.specs.Step.{opening, replies_to}
use Rattle.drf_worked.specs.Examples.{cpus, mem, framework_in, offer}
use Rattle.drf_worked.specs.OrderExamples.{eng, eng_web, role_a}
use Rattle.drf_worked.specs.ReportExamples.{reported_cpus}
use Rattle.drf_worked.specs.LifeExamples.{one, accept, accept_for, decline}
use Rattle.drf_worked.specs.QuotaExamples.{cpus_limit, cpus_in, offer_in}
use Rattle.drf_rows.specs.declared.event.Event.{Event}
use Rattle.drf_rows.specs.declared.event.Event.TheVariants.{AddAgent, AddFramework, Finish, Suppress, Revive, Reserve, Unreserve, SetLimit, Cycle}
use Rattle.drf_rows.specs.declared.reply.Refusal.TheVariants.{KnownTask, Empty, NotCovered}
use Rattle.drf_rows.specs.declared.reply.Reply.{Reply}
use Rattle.drf_rows.specs.declared.reply.Reply.TheVariants.{Done, Offers, Refused}

abbrev pub Numbers : Type 0
Numbers = set.FinSet nat_cmp

-- ports with these numbers, unreserved or reserved for a role
abbrev pub ports : Numbers → Resource
ports numbers = record { label = codes "ports"; role = default_role; value = Ranges numbers }

-- a limit of 0 keeps all `cpus` from being offered, but no ports
abbrev pub no_cpus_but_ports : Numbers → List Event
no_cpus_but_ports all =
    AddAgent (codes "n1") (cpus 4000 ∷ mem 1024000 ∷ ports all ∷ [])
    ∷ framework_in (codes "f1") (codes "a")
    ∷ cpus_limit role_a 0
    ∷ Cycle 0
    ∷ SetLimit role_a []
    ∷ Cycle 0
    ∷ []

abbrev pub no_cpus_but_ports_replies : Numbers → List Reply
no_cpus_but_ports_replies all =
    Done
    ∷ Done
    ∷ Done
    ∷ one (offer 1 (codes "f1") (codes "a") (codes "n1") (mem 1024000 ∷ ports all ∷ []))
    ∷ Done
    ∷ one (offer 2 (codes "f1") (codes "a") (codes "n1") (cpus 4000 ∷ []))
    ∷ []

-- reservations below the role and tasks use up its limit, which cuts no ports
abbrev pub used_up : Numbers → List Event
used_up all =
    AddAgent (codes "n1") (cpus 6000 ∷ cpus_in eng_web 2000 ∷ mem 64000 ∷ ports all ∷ [])
    ∷ framework_in (codes "f1") (codes "eng")
    ∷ AddFramework (codes "f2") (eng_web ∷ [])
    ∷ SetLimit eng (reported_cpus 5000 ++ record { label = codes "ports"; amount = 0 } ∷ [])
    ∷ Cycle 0
    ∷ accept (codes "f1") 1 (codes "t") (cpus 2000 ∷ [])
    ∷ Cycle 0
    ∷ decline (codes "f1") 3
    ∷ Suppress (codes "f1") eng
    ∷ Cycle 0
    ∷ accept (codes "f2") 4 (codes "t") (cpus 1000 ∷ [])
    ∷ Revive (codes "f1") eng
    ∷ Cycle 0
    ∷ []

abbrev pub used_up_replies : Numbers → List Reply
used_up_replies all =
    Done
    ∷ Done
    ∷ Done
    ∷ Done
    ∷ Offers (
    offer 1 (codes "f1") (codes "eng") (codes "n1") (cpus 3000 ∷ mem 64000 ∷ ports all ∷ [])
    ∷ offer_in 2 (codes "f2") eng_web (codes "n1") (cpus_in eng_web 2000 ∷ [])
    ∷ [])
    ∷ Done
    ∷ one (offer 3 (codes "f1") (codes "eng") (codes "n1") (cpus 1000 ∷ mem 64000 ∷ ports all ∷ []))
    ∷ Done
    ∷ Done
    ∷ one (offer_in 4 (codes "f2") eng_web (codes "n1") (cpus 1000 ∷ mem 64000 ∷ ports all ∷ []))
    ∷ Done
    ∷ Done
    ∷ one (offer 5 (codes "f1") (codes "eng") (codes "n1") (mem 64000 ∷ ports all ∷ []))
    ∷ []

-- some of the numbers are reserved, and the others are not
abbrev pub some_reserved : Numbers → Numbers → List Event
some_reserved all part =
    AddAgent (codes "n1") (cpus 1000 ∷ mem 64000 ∷ ports all ∷ [])
    ∷ Reserve (codes "n1") eng (ports part ∷ [])
    ∷ framework_in (codes "f1") (codes "ops")
    ∷ Cycle 0
    ∷ Unreserve (codes "n1") eng_web (ports part ∷ [])
    ∷ Unreserve (codes "n1") eng (ports part ∷ [])
    ∷ []

abbrev pub some_reserved_replies : Numbers → List Reply
some_reserved_replies others =
    Done
    ∷ Done
    ∷ Done
    ∷ one (offer 1 (codes "f1") (codes "ops") (codes "n1") (cpus 1000 ∷ mem 64000 ∷ ports others ∷ []))
    ∷ Refused NotCovered
    ∷ Done
    ∷ []

-- several tasks share no number of an offer, and each frees its own
abbrev pub accept_two : List Resource → List Resource → Event
accept_two first second = accept_for (codes "f1") 1 ((codes "t1", first) ∷ (codes "t2", second) ∷ []) 0 0

abbrev pub ports_shared : Numbers → Numbers → Numbers → List Event
ports_shared all first second =
    AddAgent (codes "n1") (cpus 4000 ∷ mem 256000 ∷ ports all ∷ [])
    ∷ framework_in (codes "f1") (codes "a")
    ∷ Cycle 0
    ∷ accept_two (cpus 1000 ∷ ports first ∷ []) (cpus 2000 ∷ ports second ∷ [])
    ∷ accept_two (cpus 3000 ∷ []) (cpus 2000 ∷ [])
    ∷ accept_for (codes "f1") 1 ((codes "t1", cpus 1000 ∷ []) ∷ (codes "t1", cpus 1000 ∷ []) ∷ []) 0 0
    ∷ accept_two (cpus 1000 ∷ []) []
    ∷ accept_two (cpus 1000 ∷ ports first ∷ []) (cpus 2000 ∷ [])
    ∷ Cycle 0
    ∷ Finish (codes "f1") (codes "t1")
    ∷ decline (codes "f1") 2
    ∷ Cycle 0
    ∷ []

abbrev pub ports_shared_replies : Numbers → Numbers → List Reply
ports_shared_replies all others =
    Done
    ∷ Done
    ∷ one (offer 1 (codes "f1") (codes "a") (codes "n1") (cpus 4000 ∷ mem 256000 ∷ ports all ∷ []))
    ∷ Refused NotCovered
    ∷ Refused NotCovered
    ∷ Refused KnownTask
    ∷ Refused Empty
    ∷ Done
    ∷ one (offer 2 (codes "f1") (codes "a") (codes "n1") (cpus 1000 ∷ mem 256000 ∷ ports others ∷ []))
    ∷ Done
    ∷ Done
    ∷ one (offer 3 (codes "f1") (codes "a") (codes "n1") (cpus 2000 ∷ mem 256000 ∷ ports all ∷ []))
    ∷ []

-- ---- the runs, as theorems

-- limits do not cut ports; `cpus` are cut by what is consumed
abbrev pub PortsAreNotLimited : Type 0
PortsAreNotLimited =
    (all : Numbers) → 0 < set.len all
    → (replies_to ceilings opening (no_cpus_but_ports all) ≡ no_cpus_but_ports_replies all)
    × (replies_to ceilings opening (used_up all) ≡ used_up_replies all)

-- some of the numbers, but not all, are reserved and unreserved
abbrev pub SomePortsAreReserved : Type 0
SomePortsAreReserved =
    (all part : Numbers) → IsTrue (set.is_subset part all) → 0 < set.len part → 0 < set.len (set.difference all part)
    → replies_to ceilings opening (some_reserved all part) ≡ some_reserved_replies (set.difference all part)

-- two tasks cannot use the same number of an offer
abbrev pub NoPortIsShared : Type 0
NoPortIsShared =
    (all first second : Numbers) → IsTrue (set.is_subset first all) → 0 < set.len (set.difference all first)
    → 0 < set.len (set.intersection first second) → 0 < set.len all
    → replies_to ceilings opening (ports_shared all first second) ≡ ports_shared_replies all (set.difference all first)

-- ---- particular numbers

abbrev pub four_ports : List ℕ
four_ports = 31000 ∷ 31001 ∷ 31002 ∷ 31003 ∷ []

abbrev pub numbered : List ℕ → Numbers
numbered ns = set.from_list ns

-- of the ports 31000 to 31003 two tasks cannot both use 31001, and a task that uses the first two leaves the last two
abbrev pub SomePortIsShared : Type 0
SomePortIsShared =
    replies_to ceilings opening
    (ports_shared (numbered four_ports) (numbered (31000 ∷ 31001 ∷ [])) (numbered (31001 ∷ 31002 ∷ [])))
    ≡ ports_shared_replies (numbered four_ports) (numbered (31002 ∷ 31003 ∷ []))
