-- What is true of each accepted event.
use Rattle.std.specs.Prelude.{◌≡◌, false, None}
use Rattle.std.specs.List.{AllByRecursion}
use Rattle.drf_rows.specs.LimitNumbers.{LimitNumbers}
use Rattle.drf_rows.specs.Consistent.{IsConsistent, IsNumberedByEvents}
use Rattle.drf_rows.specs.Offers.{CanAccept}
use Rattle.drf_rows.specs.Step.{live_rows, cases_of, refusal_of, effect, new_offers}
use Rattle.drf_rows.specs.declared.event.Accept as accepting
use Rattle.drf_rows.specs.declared.event.Event.{Event}
use Rattle.drf_rows.specs.declared.event.Event.TheVariants.{Accept}
use Rattle.drf_rows.specs.declared.rows.Rows.{Rows}
use Rattle.drf_laws.specs.Kept.{AreFew, IsCountable}
use Rattle.drf_laws.specs.RunLaws.{IsGiven}

-- no refusal case holds
abbrev pub NoCaseHolds : Type 0
NoCaseHolds =
    (limits : LimitNumbers) (rows : Rows) (event : Event)
    → refusal_of limits rows event ≡ None
    → AllByRecursion (λ c. c.0 ≡ false) (cases_of limits rows event)

-- the event is accepted in any other state with the same current state, and adds the same offers there
abbrev pub LiveRowsDecide : Type 0
LiveRowsDecide =
    (limits : LimitNumbers) (rows other : Rows) (event : Event)
    → live_rows rows ≡ live_rows other
    → refusal_of limits rows event ≡ None
    → (refusal_of limits other event ≡ None) × (new_offers rows (effect rows event) ≡ new_offers other (effect other event))

-- the tasks of an accept can be started with parts of its offer
abbrev pub AcceptsCanStart : Type 0
AcceptsCanStart =
    (limits : LimitNumbers) (rows : Rows) (a : accepting.Accept)
    → refusal_of limits rows (Accept a) ≡ None
    → CanAccept rows a.offer a.tasks

-- a consistent state is consistent after the event
abbrev pub EventsKeepConsistent : Type 0
EventsKeepConsistent =
    (limits : LimitNumbers) (rows : Rows) (event : Event)
    → IsConsistent rows
    → IsGiven event
    → refusal_of limits rows event ≡ None
    → IsConsistent (effect rows event)

-- a state within the capacities, with offers numbered by the events, is so after the event is counted
abbrev pub EventsKeepCounts : Type 0
EventsKeepCounts =
    (limits : LimitNumbers) (rows : Rows) (event : Event)
    → AreFew limits rows
    → IsNumberedByEvents rows
    → refusal_of limits rows event ≡ None
    → IsCountable limits rows (effect rows event)
