-- What is true in runs of events from the start.
use Rattle.std.specs.Prelude.{◌≡◌, ℕ, ◌≤◌, max, true, not, List, slice_get, Some, IsTrue}
use Rattle.std.specs.List.{list_all, AllByRecursion}
use Rattle.drf_role.specs.Name.{IsName}
use Rattle.drf_role.specs.Role.{IsRole}
use Rattle.drf_role.specs.Text.{Text}
use Rattle.drf_bundle.specs.Bundle.{IsBundle}
use Rattle.drf_bundle.specs.Quantities.{amount_of, is_named}
use Rattle.drf_rows.specs.LimitNumbers.{LimitNumbers}
use Rattle.drf_rows.specs.Consistent.{IsConsistent, IsConserved}
use Rattle.drf_rows.specs.Quota.{consumption}
use Rattle.drf_rows.specs.Step.{opening, live_rows, rows_after, rows_after_all}
use Rattle.drf_laws.specs.KeptLimitLaws.{IsGivenBundles, changes_totals}
use Rattle.drf_rows.specs.declared.event.Event.{Event}
use Rattle.drf_rows.specs.declared.event.Event.TheVariants.{AddAgent, SetAgent, AddFramework, SetFramework, SetWeight, SetLimit}
use Rattle.drf_rows.specs.declared.rows.LimitRow.{LimitRow}
use Rattle.drf_rows.specs.declared.rows.Rows.{Rows}

-- ---- the state stays consistent

-- the bundles, names and roles of the event are valid: its resources, the name and roles of a framework that it
-- registers, the roles that a framework gets, and the role whose weight or limit it sets; every value of the type
-- `Event` satisfies this
abbrev pub IsGiven : Event → Type 0
IsGiven (AddAgent agent total) = IsBundle total
IsGiven (SetAgent agent total) = IsBundle total
IsGiven (AddFramework framework roles) = IsName framework × AllByRecursion IsRole roles
IsGiven (SetFramework framework roles) = AllByRecursion IsRole roles
IsGiven (SetWeight role weight) = IsRole role
IsGiven (SetLimit role limit) = IsRole role
IsGiven other = IsGivenBundles other

abbrev pub AreGiven : List Event → Type 0
AreGiven events = AllByRecursion IsGiven events

-- a consistent current state is consistent after an event
abbrev pub StepsStayConsistent : Type 0
StepsStayConsistent =
    (limits : LimitNumbers) (rows : Rows) (event : Event)
    → IsConsistent (live_rows rows)
    → IsGiven event
    → IsConsistent (live_rows (rows_after limits rows event))

-- the same after all events of a run
abbrev pub RunsStayConsistent : Type 0
RunsStayConsistent =
    (limits : LimitNumbers) (rows : Rows) (events : List Event)
    → IsConsistent (live_rows rows)
    → AreGiven events
    → IsConsistent (live_rows (rows_after_all limits rows events))

-- the same of the rows with expired filters
abbrev pub AllRowsStayConsistent : Type 0
AllRowsStayConsistent =
    (limits : LimitNumbers) (rows : Rows) (events : List Event)
    → IsConsistent rows
    → AreGiven events
    → IsConsistent (rows_after_all limits rows events)

-- in every run from the start the rows are consistent
abbrev pub RunsFromOpeningAreConsistent : Type 0
RunsFromOpeningAreConsistent =
    (limits : LimitNumbers) (events : List Event)
    → AreGiven events
    → IsConsistent (rows_after_all limits opening events)

-- in every run from the start nothing is granted twice: on each agent, free and held resources join to its total
abbrev pub NothingIsGrantedTwice : Type 0
NothingIsGrantedTwice =
    (limits : LimitNumbers) (events : List Event)
    → AreGiven events
    → let rows : Rows = live_rows (rows_after_all limits opening events) in
    IsConsistent rows × AllByRecursion (IsConserved rows) rows.agents

-- ---- limits of roles are kept

-- in every run from the start, during events that add no agent, change no total and set no limit, the consumption of a
-- role does not rise above its limit, or above what it was before
abbrev pub RunsFromOpeningKeepLimits : Type 0
RunsFromOpeningKeepLimits =
    (limits : LimitNumbers) (earlier events : List Event) (label : Text) (place : ℕ) (l : LimitRow)
    → AreGiven earlier
    → AreGiven events
    → list_all (λ event. not (changes_totals event)) events ≡ true
    → let rows : Rows = rows_after_all limits opening earlier in
    slice_get rows.limits place ≡ Some l
    → IsTrue (is_named l.limit label)
    → consumption (rows_after_all limits rows events) l.role label ≤ max (amount_of l.limit label) (consumption rows l.role label)

-- the same from every state whose current state is consistent
abbrev pub ConsistentRunsKeepLimits : Type 0
ConsistentRunsKeepLimits =
    (limits : LimitNumbers) (rows : Rows) (events : List Event) (label : Text) (place : ℕ) (l : LimitRow)
    → IsConsistent (live_rows rows)
    → AreGiven events
    → list_all (λ event. not (changes_totals event)) events ≡ true
    → slice_get rows.limits place ≡ Some l
    → IsTrue (is_named l.limit label)
    → consumption (rows_after_all limits rows events) l.role label ≤ max (amount_of l.limit label) (consumption rows l.role label)
