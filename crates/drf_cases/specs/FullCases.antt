-- A full history: each event is refused with `HistoryFull`, whatever else is wrong with it.
use Rattle.std.specs.Prelude.{◌≡◌, true, [], ◌∷◌, codes}
use Rattle.drf_rows.specs.LimitNumbers.{LimitNumbers}
use Rattle.drf_rows.specs.Step.{is_full, reply_to}
use Rattle.drf_rows.specs.declared.event.Event.{Event}
use Rattle.drf_rows.specs.declared.event.Event.TheVariants as event
use Rattle.drf_rows.specs.declared.event.Event.TheVariants.{AddAgent, Cycle}
use Rattle.drf_rows.specs.declared.reply.Refusal.TheVariants.{HistoryFull}
use Rattle.drf_rows.specs.declared.reply.Reply.TheVariants.{Done, Refused}
use Rattle.drf_rows.specs.declared.rows.Rows.{Rows}
use Rattle.drf_worked.specs.Examples.{cpus}
use Rattle.drf_cases.specs.Dialogue.{Dialogue, few, too_late}

abbrev pub FullRefusesAll : Type 0
FullRefusesAll =
    (limits : LimitNumbers) (rows : Rows) (event : Event) → is_full limits rows ≡ true → reply_to limits rows event ≡ Refused HistoryFull

-- the capacity is one event
abbrev pub one_event : LimitNumbers
one_event = record few { events = 1 }

-- an event that would be accepted, one that is wrong in another way too, and the first event again
abbrev pub full_dialogue : Dialogue
full_dialogue =
    (AddAgent (codes "n1") (cpus 1000 ∷ []), Done)
    ∷ (event.Report, Refused HistoryFull)
    ∷ (Cycle too_late, Refused HistoryFull)
    ∷ (AddAgent (codes "n1") (cpus 1000 ∷ []), Refused HistoryFull)
    ∷ []
