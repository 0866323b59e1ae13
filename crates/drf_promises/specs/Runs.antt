-- The promises about whole runs: offers and tasks stay until they are ended, and reserved resources stay with their
-- role.
use Rattle.std.specs.Prelude.{◌≡◌, ℕ, List, [], ◌∷◌, slice_get, Some}
use Rattle.std.specs.List.{AllByRecursion}
use Rattle.drf_rows.specs.Holdings.{holdings_of}
use Rattle.drf_rows.specs.LimitNumbers.{LimitNumbers}
use Rattle.drf_rows.specs.Step.{opening, rows_after_all}
use Rattle.drf_laws.specs.HeldForLaws.{IsForItsRole}
use Rattle.drf_row_laws.specs.LifeLaws.{other_offers, other_tasks}
use Rattle.drf_rows.specs.declared.event.Event.{Event}
use Rattle.drf_rows.specs.declared.rows.OfferRow.{OfferRow}
use Rattle.drf_rows.specs.declared.rows.Rows.{Rows}
use Rattle.drf_rows.specs.declared.rows.TaskRow.{TaskRow}
use Rattle.drf_laws.specs.RunLaws.{AreGiven}

-- the element occurs in the list
abbrev pub Has : {X : Type 0} → List X → X → Type 0
Has xs x = (place : ℕ) × (slice_get xs place ≡ Some x)

-- the event does not end the offer: it is no accept, decline or rescind of it, and does not deactivate or remove its
-- agent or remove its framework
abbrev pub SparesOffer : OfferRow → Event → Type 0
SparesOffer offer event = other_offers event (offer ∷ []) ≡ offer ∷ []

-- the event does not end the task: it does not finish it, and does not remove its agent or its framework
abbrev pub SparesTask : TaskRow → Event → Type 0
SparesTask task event = other_tasks event (task ∷ []) ≡ task ∷ []

-- during events that do not end it, an offer stays as it was made
abbrev pub OffersStand : Type 0
OffersStand =
    (limits : LimitNumbers) (rows : Rows) (events : List Event) (offer : OfferRow)
    → Has rows.offers offer
    → AllByRecursion (SparesOffer offer) events
    → Has (rows_after_all limits rows events).offers offer

-- during events that do not end it, a task stays and keeps what it uses
abbrev pub TasksStand : Type 0
TasksStand =
    (limits : LimitNumbers) (rows : Rows) (events : List Event) (task : TaskRow)
    → Has rows.tasks task
    → AllByRecursion (SparesTask task) events
    → Has (rows_after_all limits rows events).tasks task

-- in no run from the start does a client hold resources that are reserved for another role than its own or one above it
abbrev pub ReservedIsItsRoles : Type 0
ReservedIsItsRoles =
    (limits : LimitNumbers) (events : List Event)
    → AreGiven events
    → AllByRecursion IsForItsRole (holdings_of (rows_after_all limits opening events))
