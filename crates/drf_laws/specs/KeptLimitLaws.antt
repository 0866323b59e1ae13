-- During events that add no agent, change no total and set no limit, no role's consumption rises above its limit, or
-- above what it was.
use Rattle.std.specs.Prelude.{◌≡◌, ℕ, ◌+◌, ◌≤◌, max, Bool, true, false, not, List, [], ◌∷◌, slice_get, Some, IsTrue}
use Rattle.std.specs.List.{list_all, AllByRecursion}
use Rattle.drf_role.specs.Text.{Text}
use Rattle.drf_role.specs.Path.{Path}
use Rattle.drf_bundle.specs.Quantities.{amount_of, is_named}
use Rattle.drf_bundle.specs.Bundle.{IsBundle}
use Rattle.drf_bundle.specs.declared.resource.Resource.{Resource}
use Rattle.drf_rows.specs.LimitNumbers.{LimitNumbers}
use Rattle.drf_rows.specs.Consistent.{IsConsistent}
use Rattle.drf_rows.specs.Quota.{reserved_in, consumption_where, consumption}
use Rattle.drf_row_laws.specs.ReservationLaws.{IsAsked}
use Rattle.drf_rows.specs.Step.{live_rows, effect, rows_after, rows_after_all}
use Rattle.drf_rows.specs.Tasks.{uses}
use Rattle.drf_rows.specs.Totals.{agent_at}
use Rattle.drf_rows.specs.declared.event.Event.{Event}
use Rattle.drf_rows.specs.declared.event.Event.TheVariants.{AddAgent, SetAgent, Accept, Reserve, Unreserve, SetLimit}
use Rattle.drf_rows.specs.declared.rows.AgentRow.{AgentRow}
use Rattle.drf_rows.specs.declared.rows.LimitRow.{LimitRow}
use Rattle.drf_rows.specs.declared.rows.Rows.{Rows}

-- ---- the statements

-- with a new total of an agent, what it has reserved is consumed in place of what the old total had reserved
abbrev pub ChangedAgentIsConsumed : Type 0
ChangedAgentIsConsumed =
    (rows : Rows) (agent : Text) (total : List Resource) (row : AgentRow) (test : Path → Bool) (label : Text)
    → IsConsistent rows
    → agent_at rows agent ≡ Some row
    → consumption_where test (effect rows (SetAgent agent total)) label + reserved_in test label row.total
    ≡ consumption_where test rows label + reserved_in test label total

-- the event adds an agent, changes a total or sets a limit
abbrev pub changes_totals : Event → Bool
changes_totals (AddAgent agent total) = true
changes_totals (SetAgent agent total) = true
changes_totals (SetLimit role limit) = true
changes_totals other = false

-- the bundles that an event uses or moves are valid
abbrev pub IsGivenBundles : Event → Type 0
IsGivenBundles (Accept a) = AllByRecursion IsBundle (uses a.tasks)
IsGivenBundles (Reserve agent role resources) = IsAsked role resources
IsGivenBundles (Unreserve agent role resources) = IsAsked role resources
IsGivenBundles other = Unit {0}

-- before each event of a run the current state is consistent, as it is in an allocator
abbrev pub StayConsistent : LimitNumbers → Rows → List Event → Type 0
StayConsistent limits rows [] = Unit {0}
StayConsistent limits rows (event ∷ events) =
    IsConsistent (live_rows rows) × IsGivenBundles event × StayConsistent limits (rows_after limits rows event) events

abbrev pub RunsKeepLimits : Type 0
RunsKeepLimits =
    (limits : LimitNumbers) (rows : Rows) (events : List Event) (label : Text) (place : ℕ) (l : LimitRow)
    → StayConsistent limits rows events
    → list_all (λ event. not (changes_totals event)) events ≡ true
    → slice_get rows.limits place ≡ Some l
    → IsTrue (is_named l.limit label)
    → consumption (rows_after_all limits rows events) l.role label ≤ max (amount_of l.limit label) (consumption rows l.role label)
