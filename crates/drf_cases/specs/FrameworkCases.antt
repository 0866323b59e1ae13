-- Frameworks and their clients: a run with each of their refusals.
use Rattle.std.specs.Prelude.{List, [], ◌∷◌, codes}
use Rattle.drf_role.specs.Path.{Path}
use Rattle.drf_rows.specs.declared.event.Event.{Event}
use Rattle.drf_rows.specs.declared.event.Event.TheVariants.{AddAgent, AddFramework, SetFramework, RemoveFramework, Finish, Suppress, Revive, Cycle}
use Rattle.drf_rows.specs.declared.reply.Refusal.TheVariants.{UnknownFramework, KnownFramework, NotInRole, Empty, TooMany, RoleInUse}
use Rattle.drf_rows.specs.declared.reply.Reply.TheVariants.{Done, Refused}
use Rattle.drf_worked.specs.Examples.{cpus, framework_in, offer}
use Rattle.drf_worked.specs.LifeExamples.{one, accept}
use Rattle.drf_worked.specs.OrderExamples.{role_a, role_b}
use Rattle.drf_cases.specs.Dialogue.{Dialogue}

abbrev role_c : Path
role_c = codes "c" ∷ []

abbrev role_d : Path
role_d = codes "d" ∷ []

-- a framework registers, is suppressed and revived (each also twice), and is removed; the capacities for roles,
-- frameworks and clients are each exceeded alone
abbrev pub frameworks_dialogue : Dialogue
frameworks_dialogue =
    (RemoveFramework (codes "f1"), Refused UnknownFramework)
    ∷ (Suppress (codes "f1") role_a, Refused UnknownFramework)
    ∷ (Revive (codes "f1") role_a, Refused UnknownFramework)
    ∷ (AddFramework (codes "f1") [], Refused Empty)
    ∷ (AddFramework (codes "f1") (role_a ∷ role_b ∷ role_c ∷ []), Refused TooMany)
    ∷ (framework_in (codes "f1") (codes "a"), Done)
    ∷ (framework_in (codes "f1") (codes "b"), Refused KnownFramework)
    ∷ (framework_in (codes "f2") (codes "b"), Done)
    ∷ (framework_in (codes "f3") (codes "a"), Refused TooMany)
    ∷ (RemoveFramework (codes "f2"), Done)
    ∷ (AddFramework (codes "f2") (role_a ∷ role_b ∷ role_a ∷ []), Done)
    ∷ (Suppress (codes "f1") role_b, Refused NotInRole)
    ∷ (Revive (codes "f1") role_b, Refused NotInRole)
    ∷ (Suppress (codes "f1") role_a, Done)
    ∷ (Suppress (codes "f1") role_a, Done)
    ∷ (Revive (codes "f1") role_a, Done)
    ∷ (Revive (codes "f1") role_a, Done)
    ∷ (RemoveFramework (codes "f1"), Done)
    ∷ (AddFramework (codes "f3") (role_c ∷ role_d ∷ []), Refused TooMany)
    ∷ (framework_in (codes "f3") (codes "c"), Done)
    ∷ (RemoveFramework (codes "f1"), Refused UnknownFramework)
    ∷ []

-- a framework's roles change: to no roles, to too many roles or clients (each capacity is exceeded alone), and while an
-- offer or a task is in a role to be left. The same list again is accepted, and so is a list without a role in which
-- only another framework holds something
abbrev roles_set : List Path → Event
roles_set roles = SetFramework (codes "f1") roles

abbrev pub set_framework_dialogue : Dialogue
set_framework_dialogue =
    (roles_set (role_a ∷ []), Refused UnknownFramework)
    ∷ (framework_in (codes "f1") (codes "a"), Done)
    ∷ (roles_set [], Refused Empty)
    ∷ (roles_set (role_a ∷ role_b ∷ role_c ∷ []), Refused TooMany)
    ∷ (roles_set (role_a ∷ role_b ∷ role_a ∷ []), Done)
    ∷ (roles_set (role_b ∷ role_a ∷ []), Done)
    ∷ (framework_in (codes "f2") (codes "c"), Done)
    ∷ (SetFramework (codes "f2") (role_c ∷ role_d ∷ []), Refused TooMany)
    ∷ (SetFramework (codes "f2") (role_d ∷ []), Done)
    ∷ (AddAgent (codes "n1") (cpus 1000 ∷ []), Done)
    ∷ (Cycle 0, one (offer 1 (codes "f1") (codes "a") (codes "n1") (cpus 1000 ∷ [])))
    ∷ (roles_set (role_b ∷ role_c ∷ role_d ∷ []), Refused TooMany)
    ∷ (roles_set (role_b ∷ []), Refused RoleInUse)
    ∷ (roles_set (role_a ∷ []), Done)
    ∷ (accept (codes "f1") 1 (codes "t") (cpus 1000 ∷ []), Done)
    ∷ (roles_set (role_b ∷ role_c ∷ []), Refused RoleInUse)
    ∷ (SetFramework (codes "f2") (role_a ∷ []), Done)
    ∷ (SetFramework (codes "f2") (role_b ∷ []), Done)
    ∷ (Finish (codes "f1") (codes "t"), Done)
    ∷ (roles_set (role_b ∷ []), Done)
    ∷ (Suppress (codes "f1") role_a, Refused NotInRole)
    ∷ []
