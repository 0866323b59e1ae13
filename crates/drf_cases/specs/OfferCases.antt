-- Offers, tasks and cycles: a run with each of their refusals.
use Rattle.std.specs.Prelude.{ℕ, [], ◌∷◌, ◌++◌, codes}
use Rattle.drf_rows.specs.declared.event.Event.TheVariants.{AddAgent, Rescind, Finish, Cycle}
use Rattle.drf_rows.specs.declared.reply.Refusal.TheVariants.{BadMoment, UnknownFramework, UnknownOffer, NotYours, UnknownTask, KnownTask, Empty, NotCovered, TooMany}
use Rattle.drf_rows.specs.declared.reply.Reply.TheVariants.{Done, Offers, Refused}
use Rattle.drf_worked.specs.Examples.{cpus, mem, framework_in, offer}
use Rattle.drf_worked.specs.LifeExamples.{one, accept, accept_for, decline, decline_for}
use Rattle.drf_cases.specs.Dialogue.{Dialogue, too_late}

-- two frameworks have an offer each
abbrev two_offers : Dialogue
two_offers =
    (AddAgent (codes "n1") (cpus 2000 ∷ mem 64000 ∷ []), Done)
    ∷ (AddAgent (codes "n2") (cpus 1000 ∷ []), Done)
    ∷ (framework_in (codes "f1") (codes "a"), Done)
    ∷ (framework_in (codes "f2") (codes "b"), Done)
    ∷ (
      Cycle 0,
      Offers (
          offer 1 (codes "f1") (codes "a") (codes "n1") (cpus 2000 ∷ mem 64000 ∷ [])
          ∷ offer 2 (codes "f2") (codes "b") (codes "n2") (cpus 1000 ∷ [])
          ∷ []),
    )
    ∷ []

-- the greatest amount of a scalar in a bundle: twice as much has no join
abbrev all_there_is : ℕ
all_there_is = 18446744073709551615

-- an offer is accepted, the rest is offered and accepted as a whole, an offer is declined, and a task finishes;
-- while there are too many filters, accepts and declines that set none are accepted
abbrev pub offers_dialogue : Dialogue
offers_dialogue =
    two_offers
    ++ (Cycle too_late, Refused BadMoment)
    ∷ (accept_for (codes "f1") 1 ((codes "t", cpus 1000 ∷ []) ∷ []) too_late 0, Refused BadMoment)
    ∷ (accept (codes "f9") 1 (codes "t") (cpus 1000 ∷ []), Refused UnknownFramework)
    ∷ (accept (codes "f1") 7 (codes "t") (cpus 1000 ∷ []), Refused UnknownOffer)
    ∷ (accept (codes "f1") 2 (codes "t") (cpus 1000 ∷ []), Refused NotYours)
    ∷ (accept_for (codes "f1") 1 ((codes "t", cpus 1000 ∷ []) ∷ (codes "t", cpus 1000 ∷ []) ∷ []) 0 0, Refused KnownTask)
    ∷ (accept (codes "f1") 1 (codes "t") [], Refused Empty)
    ∷ (accept (codes "f1") 1 (codes "t") (cpus 2001 ∷ []), Refused NotCovered)
    ∷ (accept_for (codes "f1") 1 ((codes "t", cpus 1001 ∷ []) ∷ (codes "u", cpus 1000 ∷ []) ∷ []) 0 0, Refused NotCovered)
    ∷ (
      accept_for (codes "f1") 1 ((codes "t", cpus all_there_is ∷ []) ∷ (codes "u", cpus all_there_is ∷ []) ∷ []) 0 0,
      Refused NotCovered,
    )
    ∷ (accept (codes "f1") 1 (codes "t") (cpus 1000 ∷ []), Done)
    ∷ (Cycle 0, one (offer 3 (codes "f1") (codes "a") (codes "n1") (cpus 1000 ∷ mem 64000 ∷ [])))
    ∷ (accept (codes "f1") 3 (codes "t") (cpus 1000 ∷ []), Refused KnownTask)
    ∷ (decline_for (codes "f2") 2 too_late 0, Refused BadMoment)
    ∷ (decline (codes "f9") 2, Refused UnknownFramework)
    ∷ (decline (codes "f2") 7, Refused UnknownOffer)
    ∷ (decline (codes "f1") 2, Refused NotYours)
    ∷ (decline_for (codes "f2") 2 0 5000, Done)
    ∷ (decline_for (codes "f1") 3 0 5000, Refused TooMany)
    ∷ (accept_for (codes "f1") 3 ((codes "u", cpus 1000 ∷ []) ∷ []) 0 5000, Refused TooMany)
    ∷ (accept_for (codes "f1") 3 ((codes "u", cpus 1000 ∷ mem 64000 ∷ []) ∷ []) 0 5000, Done)
    ∷ (Rescind 3, Refused UnknownOffer)
    ∷ (Cycle 4999, one (offer 4 (codes "f1") (codes "a") (codes "n2") (cpus 1000 ∷ [])))
    ∷ (decline (codes "f1") 4, Done)
    ∷ (Cycle 4999, one (offer 5 (codes "f1") (codes "a") (codes "n2") (cpus 1000 ∷ [])))
    ∷ (accept (codes "f1") 5 (codes "v") (cpus 400 ∷ []), Done)
    ∷ (Cycle 4999, one (offer 6 (codes "f1") (codes "a") (codes "n2") (cpus 600 ∷ [])))
    ∷ (Rescind 6, Done)
    ∷ (Rescind 6, Refused UnknownOffer)
    ∷ (Cycle 5000, one (offer 7 (codes "f2") (codes "b") (codes "n2") (cpus 600 ∷ [])))
    ∷ (decline_for (codes "f2") 7 5000 5000, Done)
    ∷ (Finish (codes "f9") (codes "t"), Refused UnknownFramework)
    ∷ (Finish (codes "f1") (codes "w"), Refused UnknownTask)
    ∷ (Finish (codes "f2") (codes "t"), Refused UnknownTask)
    ∷ (Finish (codes "f1") (codes "t"), Done)
    ∷ (Finish (codes "f1") (codes "t"), Refused UnknownTask)
    ∷ []
