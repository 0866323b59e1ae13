-- An allocator can be saved after each event.
use Rattle.std.proofs.Common.{◌≡◌, [], ◌∷◌, sym, subst}
use Rattle.drf_rows.specs.Consistent.{IsConsistent}
use Rattle.drf_rows.specs.LimitNumbers.{LimitNumbers, IsWithinCeilings}
use Rattle.drf_rows.specs.Step.{live_rows, rows_after}
use Rattle.drf_row_laws.proofs.LiveLaws.{rows_after-same_live, live_rows-twice}
use Rattle.drf_rows.specs.declared.event.Event.{Event}
use Rattle.drf_rows.specs.declared.rows.Rows.{Rows}
use Rattle.drf_laws.specs.RunLaws.{IsGiven}
use Rattle.drf_laws.proofs.theorems.Kept.{IsKept-forgot}
use Rattle.drf_saved_laws.specs.SavedLaws.{IsSaveable}
use Rattle.drf_saved_laws.proofs.theorems.Epochs.{live_saveable}
use Rattle.drf_saved_laws.proofs.theorems.Runs.{saveable_rows_stay_so}
use Rattle.drf_core.specs.Keeping.{IsStanding}

-- if the current state can be saved, it can be saved after an event
pub saveable_after : (limits : LimitNumbers) (rows : Rows) (event : Event) → IsWithinCeilings limits → IsGiven event
    → IsSaveable limits (live_rows rows) → IsSaveable limits (live_rows (rows_after limits rows event))
saveable_after limits rows event ceilings given can =
    subst (IsSaveable limits) (sym (rows_after-same_live limits rows (live_rows rows) (sym (live_rows-twice rows)) event))
    (live_saveable limits (rows_after limits (live_rows rows) event)
    (saveable_rows_stay_so limits (live_rows rows) (event ∷ []) ceilings (given, tt) can))

-- the invariants still hold after expired filters are removed
pub standing_forgot : (limits : LimitNumbers) (old forgot : Rows) → IsStanding limits old → live_rows forgot ≡ live_rows old
    → forgot ≡ record old { filters = forgot.filters } → IsConsistent forgot → IsStanding limits forgot
standing_forgot limits old forgot standing live others right = record {
  kept = IsKept-forgot limits old forgot standing.kept others right;
  saveable = subst (IsSaveable limits) (sym live) standing.saveable;
}
