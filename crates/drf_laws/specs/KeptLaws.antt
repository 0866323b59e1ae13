-- What is true of the state at all times, as it follows from `IsKept`.
use Rattle.std.specs.Prelude.{ℕ, ◌<◌, ◌≤◌, ◌^◌, length}
use Rattle.std.specs.List.{AllByRecursion}
use Rattle.drf_role.specs.Text.{Text}
use Rattle.drf_bundle.specs.Quantities.{amount_of}
use Rattle.drf_rows.specs.Held.{cluster_total}
use Rattle.drf_rows.specs.LimitNumbers.{LimitNumbers}
use Rattle.drf_rows.specs.Consistent.{IsConsistent}
use Rattle.drf_rows.specs.Step.{live_rows}
use Rattle.drf_rows.specs.declared.limits.TheConstants.{LATEST_TIMESTAMP}
use Rattle.drf_rows.specs.declared.rows.Rows.{Rows}
use Rattle.drf_laws.specs.Kept.{IsKept}

-- there are at most 4096 agents, and no offer number exceeds 2^56, nor does the next one
abbrev pub KeptNumbersAreSmall : Type 0
KeptNumbersAreSmall =
    (limits : LimitNumbers) (rows : Rows)
    → IsKept limits rows
    → (length rows.agents ≤ 4096) × (rows.next_offer ≤ 2 ^ 56) × AllByRecursion (λ o. o.number ≤ 2 ^ 56) rows.offers

-- all agents together have less than 2^52 thousandths of a scalar
abbrev pub KeptTotalsAreSmall : Type 0
KeptTotalsAreSmall =
    (limits : LimitNumbers) (rows : Rows) (label : Text)
    → IsKept limits rows
    → amount_of (cluster_total rows.agents) label < 2 ^ 52

-- every filter in force ends before 2^63
abbrev pub FiltersEndEarly : Type 0
FiltersEndEarly = (rows : Rows) → IsConsistent rows → AllByRecursion (λ f. f.until < 2 ^ 63) (live_rows rows).filters

-- the current state is consistent
abbrev pub LiveRowsAreConsistent : Type 0
LiveRowsAreConsistent = (rows : Rows) → IsConsistent rows → IsConsistent (live_rows rows)

-- a consistent state is consistent at any other time of the clock
abbrev pub ClockMayMove : Type 0
ClockMayMove =
    (rows : Rows) (clock : ℕ)
    → IsConsistent rows
    → clock ≤ LATEST_TIMESTAMP
    → IsConsistent (record rows { clock = clock })
