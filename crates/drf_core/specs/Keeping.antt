-- What always holds for an allocator.
use Rattle.drf_rows.specs.LimitNumbers.{LimitNumbers}
use Rattle.drf_rows.specs.Step.{live_rows}
use Rattle.drf_rows.specs.declared.rows.Rows.{Rows}
use Rattle.drf_laws.specs.Kept.{IsKept}
use Rattle.drf_saved_laws.specs.SavedLaws.{IsSaveable}

-- the rows satisfy the invariants (`IsKept`), and the current state can be saved
pub record IsStanding (limits : LimitNumbers) (rows : Rows) : Type 0 where
  pub kept : IsKept limits rows
  pub saveable : IsSaveable limits (live_rows rows)
