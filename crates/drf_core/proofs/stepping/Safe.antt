-- What callers see of an allocator whose rows satisfy the invariants.
use Rattle.drf_rows.specs.LimitNumbers.{LimitNumbers}
use Rattle.drf_rows.specs.Step.{live_rows}
use Rattle.drf_row_laws.proofs.ConsistentLaws.{conserved-consistent, conserved-live}
use Rattle.drf_rows.specs.declared.rows.Rows.{Rows}
use Rattle.drf_laws.specs.Kept.{IsKept}
use Rattle.drf_core.specs.Machine.{IsSafe}
use Rattle.drf_laws.proofs.theorems.Kept.{consistent-live, numbers_bounded, filters_bounded, few_offers_kept}

pub safe_kept : (limits : LimitNumbers) (rows : Rows) → IsKept limits rows → IsSafe (live_rows rows)
safe_kept limits rows kept = record {
  consistent = consistent-live rows kept.consistent;
  conserved = conserved-live rows (conserved-consistent rows kept.consistent);
  numbers = numbers_bounded limits rows kept;
  next_offer = few_offers_kept limits rows kept;
  filters = filters_bounded rows kept.consistent;
}
