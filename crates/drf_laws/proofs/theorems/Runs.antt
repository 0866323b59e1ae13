-- Each event and each run keep a consistent state consistent; so runs keep the limits of roles.
use Rattle.std.proofs.Common.{◌≡◌, ℕ, ◌+◌, List, [], ◌∷◌, Option, Some, None, refl, sym, subst}
use Rattle.drf_rows.specs.LimitNumbers.{LimitNumbers}
use Rattle.std.specs.List.{AllByRecursion}
use Rattle.drf_rows.specs.Consistent.{IsConsistent}
use Rattle.drf_rows.specs.Holdings.{holdings_of}
use Rattle.drf_rows.specs.Step.{opening, live_rows, refusal_of, effect, rows_after, rows_after_all}
use Rattle.drf_row_laws.proofs.ConsistentLaws.{conserved-consistent}
use Rattle.drf_laws.specs.HeldForLaws.{IsForItsRole}
use Rattle.drf_laws.proofs.HeldForLaws.{reserved_is_held_by_its_role}
use Rattle.drf_laws.specs.KeptLimitLaws.{StayConsistent, IsGivenBundles}
use Rattle.drf_laws.proofs.KeptLimitLaws.{runs_keep_limits}
use Rattle.drf_row_laws.proofs.LiveLaws.{rows_after-live}
use Rattle.drf_row_laws.proofs.RegistrationLaws.{IsConsistent-opening}
use Rattle.drf_row_laws.proofs.StepLaws.{rows_after-refused, rows_after-accepted}
use Rattle.drf_rows.specs.declared.event.Event.{Event}
use Rattle.drf_rows.specs.declared.event.Event.TheVariants.{AddAgent, SetAgent, AddFramework, SetFramework, SetWeight, SetLimit}
use Rattle.drf_rows.specs.declared.reply.Refusal.{Refusal}
use Rattle.drf_rows.specs.declared.rows.Rows.{Rows}
use Rattle.drf_laws.specs.RunLaws.{IsGiven, AreGiven, StepsStayConsistent, RunsStayConsistent, AllRowsStayConsistent, RunsFromOpeningAreConsistent, NothingIsGrantedTwice, RunsFromOpeningKeepLimits, ConsistentRunsKeepLimits}
use Rattle.drf_laws.proofs.theorems.Kept.{consistent-live}
use Rattle.drf_laws.proofs.theorems.Events.{IsConsistent-effect}

-- ---- an event, and a run

-- counting an event keeps a state consistent
IsConsistent-events : (rows : Rows) (n : ℕ) → IsConsistent rows → IsConsistent (record rows { events = n })
IsConsistent-events rows n consistent = record {
  agents = consistent.agents;
  frameworks = consistent.frameworks;
  holdings = consistent.holdings;
  covered = consistent.covered;
  tasks = consistent.tasks;
  weights = consistent.weights;
  limits = consistent.limits;
  filters = consistent.filters;
  early = consistent.early;
  counted = consistent.counted;
  numbered = consistent.numbered;
}

pub IsConsistent-after : (limits : LimitNumbers) (rows : Rows) (event : Event) → IsConsistent rows → IsGiven event
    → IsConsistent (rows_after limits rows event)
IsConsistent-after limits rows event consistent given = by (refusal_of limits rows event) refl
  where
    by : (f : Option Refusal) → refusal_of limits rows event ≡ f → IsConsistent (rows_after limits rows event)
    by None accepted =
        subst IsConsistent (sym (rows_after-accepted limits rows event accepted))
        (IsConsistent-events (effect rows event) (rows.events + 1) (IsConsistent-effect limits rows consistent event given accepted))
    by (Some refusal) refused = subst IsConsistent (sym (rows_after-refused limits rows event refusal refused)) consistent

pub steps_stay_consistent : StepsStayConsistent
steps_stay_consistent limits rows event consistent given =
    subst IsConsistent (rows_after-live limits rows event)
    (consistent-live (rows_after limits (live_rows rows) event) (IsConsistent-after limits (live_rows rows) event consistent given))

pub runs_stay_consistent : RunsStayConsistent
runs_stay_consistent limits rows [] consistent given = consistent
runs_stay_consistent limits rows (event ∷ events) consistent given =
    runs_stay_consistent limits (rows_after limits rows event) events (steps_stay_consistent limits rows event consistent given.0) given.1

pub all_rows_stay_consistent : AllRowsStayConsistent
all_rows_stay_consistent limits rows [] consistent given = consistent
all_rows_stay_consistent limits rows (event ∷ events) consistent given =
    all_rows_stay_consistent limits (rows_after limits rows event) events (IsConsistent-after limits rows event consistent given.0) given.1

pub runs_from_opening_are_consistent : RunsFromOpeningAreConsistent
runs_from_opening_are_consistent limits events given = all_rows_stay_consistent limits opening events IsConsistent-opening given

pub nothing_is_granted_twice : NothingIsGrantedTwice
nothing_is_granted_twice limits events given =
    let consistent = runs_stay_consistent limits opening events (consistent-live opening IsConsistent-opening) given in
    (consistent, conserved-consistent (live_rows (rows_after_all limits opening events)) consistent)

-- ---- limits of roles

pub given_bundles : (event : Event) → IsGiven event → IsGivenBundles event
given_bundles (AddAgent agent total) given = tt
given_bundles (SetAgent agent total) given = tt
given_bundles (AddFramework framework roles) given = tt
given_bundles (SetFramework framework roles) given = tt
given_bundles (SetWeight role weight) given = tt
given_bundles (SetLimit role limit) given = tt
given_bundles event given = given

stay_consistent : (limits : LimitNumbers) (rows : Rows) (events : List Event) → IsConsistent (live_rows rows) → AreGiven events
    → StayConsistent limits rows events
stay_consistent limits rows [] consistent given = tt
stay_consistent limits rows (event ∷ events) consistent given = (
  consistent,
  given_bundles event given.0,
  stay_consistent limits (rows_after limits rows event) events (steps_stay_consistent limits rows event consistent given.0) given.1,
)

pub consistent_runs_keep_limits : ConsistentRunsKeepLimits
consistent_runs_keep_limits limits rows events label place l consistent given =
    runs_keep_limits limits rows events label place l (stay_consistent limits rows events consistent given)

pub runs_from_opening_keep_limits : RunsFromOpeningKeepLimits
runs_from_opening_keep_limits limits earlier events label place l before given =
    consistent_runs_keep_limits limits (rows_after_all limits opening earlier) events label place l
    (runs_stay_consistent limits opening earlier (consistent-live opening IsConsistent-opening) before) given

-- ---- reserved resources

-- no client holds what is reserved for other roles
abbrev AreOwn : Rows → Type 0
AreOwn rows = AllByRecursion IsForItsRole (holdings_of rows)

own_after : (limits : LimitNumbers) (rows : Rows) (event : Event) → IsConsistent rows → IsGiven event → AreOwn rows
    → AreOwn (rows_after limits rows event)
own_after limits rows event consistent given own = by (refusal_of limits rows event) refl
  where
    by : (found : Option Refusal) → refusal_of limits rows event ≡ found → AreOwn (rows_after limits rows event)
    by None accepted =
        subst AreOwn (sym (rows_after-accepted limits rows event accepted))
        (reserved_is_held_by_its_role limits rows event consistent (given_bundles event given) accepted own)
    by (Some refusal) refused = subst AreOwn (sym (rows_after-refused limits rows event refusal refused)) own

pub own_after_all : (limits : LimitNumbers) (rows : Rows) (events : List Event) → IsConsistent rows → AreGiven events → AreOwn rows
    → AreOwn (rows_after_all limits rows events)
own_after_all limits rows [] consistent given own = own
own_after_all limits rows (event ∷ events) consistent given own =
    own_after_all limits (rows_after limits rows event) events (IsConsistent-after limits rows event consistent given.0) given.1
    (own_after limits rows event consistent given.0 own)
