-- Theorems about saved rows.
use Rattle.std.specs.Prelude.{◌≡◌, Bool, List, [], ◌++◌, map, Some, None}
use Rattle.std.specs.List.{AllByRecursion}
use Rattle.drf_role.specs.Path.{Path}
use Rattle.drf_role.specs.Text.{Text}
use Rattle.drf_rows.specs.Consistent.{offers_counted, IsConsistent, IsNumberedByEvents}
use Rattle.drf_rows.specs.Holdings.{holdings_of}
use Rattle.drf_rows.specs.LimitNumbers.{LimitNumbers, IsWithinCeilings}
use Rattle.drf_rows.specs.Step.{opening, live_rows, rows_after_all, replies_to}
use Rattle.drf_laws.specs.HeldForLaws.{IsForItsRole}
use Rattle.drf_rows.specs.declared.event.Event.{Event}
use Rattle.drf_rows.specs.declared.rows.FrameworkRow.{FrameworkRow}
use Rattle.drf_rows.specs.declared.rows.Rows.{Rows}
use Rattle.drf_laws.specs.BoundLaws.{AreWithin}
use Rattle.drf_laws.specs.RunLaws.{AreGiven}
use Rattle.drf_saved.specs.Epoch.{epoch}
use Rattle.drf_saved.specs.Saved.{begun, head_fault, head_of, restored, row_fault, saved_rows, with_row, IsTyped}
use Rattle.drf_saved.specs.declared.saved.Head.{Head}
use Rattle.drf_saved.specs.declared.saved.SavedRow.{SavedRow}

-- rows that can be saved: consistent, within the capacities, with numbers that agree with their events, and without holdings reserved for others
pub record IsSaveable (limits : LimitNumbers) (rows : Rows) : Type 0 where
  pub consistent : IsConsistent rows
  pub within : AreWithin limits rows
  pub numbered : IsNumberedByEvents rows
  pub own : AllByRecursion IsForItsRole (holdings_of rows)

-- ---- row by row

-- a head without an error makes rows that can be saved
abbrev pub HeadIsSaveable : Type 0
HeadIsSaveable =
    (limits : LimitNumbers) (head : Head)
    → head_fault limits head ≡ None
    → IsSaveable limits (begun head)

-- adding a row without an error keeps them so
abbrev pub RowKeepsSaveable : Type 0
RowKeepsSaveable =
    (limits : LimitNumbers) (rows : Rows) (row : SavedRow)
    → IsSaveable limits rows
    → IsTyped row
    → row_fault limits rows row ≡ None
    → IsSaveable limits (with_row rows row)

-- ---- restoring a list

-- restored rows can be saved, if the rows of the list are typed
abbrev pub RestoredCanBeSaved : Type 0
RestoredCanBeSaved =
    (limits : LimitNumbers) (head : Head) (saved : List SavedRow) (rows : Rows)
    → AllByRecursion IsTyped saved
    → restored limits head saved ≡ Some rows
    → IsSaveable limits rows

-- exactly that list and that head are saved of them, and no filter has expired; so no two lists restore the same rows
abbrev pub RestoredIsListed : Type 0
RestoredIsListed =
    (limits : LimitNumbers) (head : Head) (saved : List SavedRow) (rows : Rows)
    → restored limits head saved ≡ Some rows
    → (saved_rows rows ≡ saved) × (head_of rows ≡ head) × (live_rows rows ≡ rows)

-- what is saved of rows that can be saved is restored as their current state; so a list is accepted exactly if it is saved of some such rows
abbrev pub SavedIsRestored : Type 0
SavedIsRestored =
    (limits : LimitNumbers) (rows : Rows)
    → IsSaveable limits rows
    → restored limits (head_of rows) (saved_rows rows) ≡ Some (live_rows rows)

-- what is saved depends only on the current state
abbrev pub LiveRowsAreSaved : Type 0
LiveRowsAreSaved =
    (a b : Rows)
    → live_rows a ≡ live_rows b
    → (saved_rows a ≡ saved_rows b) × (head_of a ≡ head_of b)

-- ---- runs that are saved

-- after every run from the empty cluster the rows can be saved
abbrev pub RunsCanBeSaved : Type 0
RunsCanBeSaved =
    (limits : LimitNumbers) (events : List Event)
    → IsWithinCeilings limits
    → AreGiven events
    → IsSaveable limits (rows_after_all limits opening events)

-- and after every run from rows that can be saved
abbrev pub SaveableRowsStaySo : Type 0
SaveableRowsStaySo =
    (limits : LimitNumbers) (rows : Rows) (events : List Event)
    → IsWithinCeilings limits
    → AreGiven events
    → IsSaveable limits rows
    → IsSaveable limits (rows_after_all limits rows events)

-- what is saved after the first events is restored, and from there the other events have the same replies and reach the same current state
abbrev pub GoesOn : LimitNumbers → Rows → List Event → List Event → Type 0
GoesOn limits start first second =
    let rows : Rows = rows_after_all limits start first in
    (read : Rows) × (restored limits (head_of rows) (saved_rows rows) ≡ Some read)
    × (replies_to limits start (first ++ second) ≡ replies_to limits start first ++ replies_to limits read second)
    × (live_rows (rows_after_all limits start (first ++ second)) ≡ live_rows (rows_after_all limits read second))

-- this holds for every run from the empty cluster
abbrev pub RunsGoOnFromSaved : Type 0
RunsGoOnFromSaved =
    (limits : LimitNumbers) (first second : List Event)
    → IsWithinCeilings limits
    → AreGiven first
    → GoesOn limits opening first second

-- and for every run from rows that can be saved, such as restored ones; so a run can be saved any number of times
abbrev pub SavedRowsGoOn : Type 0
SavedRowsGoOn =
    (limits : LimitNumbers) (rows : Rows) (first second : List Event)
    → IsWithinCeilings limits
    → AreGiven first
    → IsSaveable limits rows
    → GoesOn limits rows first second

-- ---- runs that resume from the current state

-- the replies to a run are those to its first events, followed by those that the current state then gives to the other events
abbrev pub RunsResume : Type 0
RunsResume =
    (limits : LimitNumbers) (rows : Rows) (first second : List Event)
    → replies_to limits rows (first ++ second)
    ≡ replies_to limits rows first ++ replies_to limits (live_rows (rows_after_all limits rows first)) second

-- the current state at its end is the one that the other events reach from the current state on the way
abbrev pub RowsResume : Type 0
RowsResume =
    (limits : LimitNumbers) (rows : Rows) (first second : List Event)
    → live_rows (rows_after_all limits rows (first ++ second))
    ≡ live_rows (rows_after_all limits (live_rows (rows_after_all limits rows first)) second)

-- ---- epochs

-- rows that can be saved can still be saved after an epoch
abbrev pub EpochCanBeSaved : Type 0
EpochCanBeSaved =
    (limits : LimitNumbers) (rows : Rows)
    → IsSaveable limits rows
    → IsSaveable limits (epoch (live_rows rows))

-- a framework without the counts of its clients
abbrev pub but_for_counts : FrameworkRow → Text × List (Path × Bool)
but_for_counts f = (f.name, map (λ c. (c.role, c.suppressed)) f.clients)

-- what an epoch keeps
pub record IsKeptByEpoch (rows new : Rows) : Type 0 where
  pub agents : new.agents ≡ rows.agents
  pub frameworks : map but_for_counts new.frameworks ≡ map but_for_counts rows.frameworks
  pub tasks : new.tasks ≡ rows.tasks
  pub weights : new.weights ≡ rows.weights
  pub limits : new.limits ≡ rows.limits
  pub filters : new.filters ≡ rows.filters
  pub clock : new.clock ≡ rows.clock

-- what an epoch resets: offers, counts, and the events that fill the history
pub record IsNewEpoch (new : Rows) : Type 0 where
  pub offers : new.offers ≡ []
  pub counts : offers_counted new.frameworks ≡ 0
  pub next_offer : new.next_offer ≡ 1
  pub events : new.events ≡ 0

abbrev pub EpochKeepsTheRest : Type 0
EpochKeepsTheRest = (rows : Rows) → IsKeptByEpoch rows (epoch rows) × IsNewEpoch (epoch rows)
