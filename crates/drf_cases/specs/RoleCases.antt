-- Reservations, weights and limits of roles: runs with each of their refusals.
use Rattle.std.specs.Prelude.{List, [], ◌∷◌, ◌++◌, codes}
use Rattle.drf_role.specs.Role.{default_role}
use Rattle.drf_bundle.specs.declared.quantities.Entry.{Entry}
use Rattle.drf_rows.specs.declared.event.Event.TheVariants.{AddAgent, DeactivateAgent, Reserve, Unreserve, SetWeight, SetLimit}
use Rattle.drf_rows.specs.declared.reply.Refusal.TheVariants.{UnknownAgent, DefaultRole, Empty, NotUnreserved, NotCovered, OverLimit, BadWeight, TooMany}
use Rattle.drf_rows.specs.declared.reply.Reply.TheVariants.{Done, Refused}
use Rattle.drf_worked.specs.Examples.{cpus, cpus_for}
use Rattle.drf_worked.specs.OrderExamples.{eng, ops, role_a, role_b}
use Rattle.drf_worked.specs.QuotaExamples.{cpus_limit}
use Rattle.drf_worked.specs.ReportExamples.{reported_cpus}
use Rattle.drf_cases.specs.Dialogue.{Dialogue}

-- a part of an inactive agent is reserved and unreserved
abbrev pub reservations_dialogue : Dialogue
reservations_dialogue =
    (Reserve (codes "n1") eng (cpus 1000 ∷ []), Refused UnknownAgent)
    ∷ (Unreserve (codes "n1") eng (cpus 1000 ∷ []), Refused UnknownAgent)
    ∷ (AddAgent (codes "n1") (cpus 2000 ∷ []), Done)
    ∷ (DeactivateAgent (codes "n1"), Done)
    ∷ (cpus_limit eng 1000, Done)
    ∷ (Reserve (codes "n1") default_role (cpus 1000 ∷ []), Refused DefaultRole)
    ∷ (Reserve (codes "n1") eng [], Refused Empty)
    ∷ (Reserve (codes "n1") eng (cpus_for (codes "a") 1000 ∷ []), Refused NotUnreserved)
    ∷ (Reserve (codes "n1") eng (cpus 2001 ∷ []), Refused NotCovered)
    ∷ (Reserve (codes "n1") eng (cpus 1001 ∷ []), Refused OverLimit)
    ∷ (Reserve (codes "n1") eng (cpus 1000 ∷ []), Done)
    ∷ (Reserve (codes "n1") ops (cpus 1001 ∷ []), Refused NotCovered)
    ∷ (Unreserve (codes "n1") default_role (cpus 1000 ∷ []), Refused DefaultRole)
    ∷ (Unreserve (codes "n1") eng [], Refused Empty)
    ∷ (Unreserve (codes "n1") eng (cpus_for (codes "eng") 1000 ∷ []), Refused NotUnreserved)
    ∷ (Unreserve (codes "n1") eng (cpus 1001 ∷ []), Refused NotCovered)
    ∷ (Unreserve (codes "n1") ops (cpus 1000 ∷ []), Refused NotCovered)
    ∷ (Unreserve (codes "n1") eng (cpus 1000 ∷ []), Done)
    ∷ (Reserve (codes "n1") ops (cpus 2000 ∷ []), Done)
    ∷ []

-- one name of a scalar more than the capacity
abbrev three_scalars : List Entry
three_scalars = reported_cpus 0 ++ record { label = codes "gpus"; amount = 0 } ∷ record { label = codes "mem"; amount = 0 } ∷ []

-- one role has a weight, which is replaced, and one has a limit, which is replaced and removed
abbrev pub roles_dialogue : Dialogue
roles_dialogue =
    (SetWeight role_a 0, Refused BadWeight)
    ∷ (SetWeight role_a 1000001, Refused BadWeight)
    ∷ (SetWeight role_a 1000000, Done)
    ∷ (SetWeight role_b 1, Refused TooMany)
    ∷ (SetWeight role_a 1, Done)
    ∷ (SetLimit default_role [], Refused DefaultRole)
    ∷ (cpus_limit role_a 0, Done)
    ∷ (cpus_limit role_b 0, Refused TooMany)
    ∷ (SetLimit role_b [], Done)
    ∷ (cpus_limit role_a 1000, Done)
    ∷ (SetLimit role_a three_scalars, Refused TooMany)
    ∷ (SetLimit role_a [], Done)
    ∷ (cpus_limit role_b 0, Done)
    ∷ []
