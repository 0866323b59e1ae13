-- Agents: a run with each of their refusals.
use Rattle.std.specs.Prelude.{[], ◌∷◌, codes}
use Rattle.drf_rows.specs.declared.event.Event.TheVariants.{AddAgent, RemoveAgent, ActivateAgent, DeactivateAgent, SetAgent, Rescind, Cycle}
use Rattle.drf_rows.specs.declared.reply.Refusal.TheVariants.{UnknownAgent, KnownAgent, UnknownOffer, NotCovered, TooLarge, TooMany}
use Rattle.drf_rows.specs.declared.reply.Reply.TheVariants.{Done, Refused}
use Rattle.drf_worked.specs.Examples.{cpus, mem, gpus, framework_in, offer}
use Rattle.drf_worked.specs.LifeExamples.{one}
use Rattle.drf_cases.specs.Dialogue.{Dialogue, too_large}

-- an agent registers, is activated and deactivated (each also twice), gets another total, and is removed with its offer
abbrev pub agents_dialogue : Dialogue
agents_dialogue =
    (RemoveAgent (codes "n1"), Refused UnknownAgent)
    ∷ (ActivateAgent (codes "n1"), Refused UnknownAgent)
    ∷ (DeactivateAgent (codes "n1"), Refused UnknownAgent)
    ∷ (SetAgent (codes "n1") (cpus 1000 ∷ []), Refused UnknownAgent)
    ∷ (AddAgent (codes "n1") (cpus 2000 ∷ mem 64000 ∷ []), Done)
    ∷ (AddAgent (codes "n1") (cpus 1000 ∷ []), Refused KnownAgent)
    ∷ (AddAgent (codes "n2") (cpus too_large ∷ []), Refused TooLarge)
    ∷ (AddAgent (codes "n2") (gpus 1000 ∷ []), Refused TooMany)
    ∷ (AddAgent (codes "n2") (cpus 1000 ∷ []), Done)
    ∷ (AddAgent (codes "n3") (cpus 1000 ∷ []), Refused TooMany)
    ∷ (ActivateAgent (codes "n1"), Done)
    ∷ (DeactivateAgent (codes "n2"), Done)
    ∷ (DeactivateAgent (codes "n2"), Done)
    ∷ (framework_in (codes "f1") (codes "a"), Done)
    ∷ (Cycle 0, one (offer 1 (codes "f1") (codes "a") (codes "n1") (cpus 2000 ∷ mem 64000 ∷ [])))
    ∷ (SetAgent (codes "n1") (cpus 1999 ∷ mem 64000 ∷ []), Refused NotCovered)
    ∷ (SetAgent (codes "n1") (cpus too_large ∷ mem 64000 ∷ []), Refused TooLarge)
    ∷ (SetAgent (codes "n2") (gpus 1000 ∷ []), Refused TooMany)
    ∷ (SetAgent (codes "n1") (cpus 2000 ∷ mem 64000 ∷ []), Done)
    ∷ (RemoveAgent (codes "n1"), Done)
    ∷ (Rescind 1, Refused UnknownOffer)
    ∷ (RemoveAgent (codes "n1"), Refused UnknownAgent)
    ∷ []
