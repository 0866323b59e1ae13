-- The consumption of roles, and rows that are few enough to compute it.
use Rattle.std.specs.Prelude.{◌≤◌, ◌<◌, ◌^◌, List, [], fold, length}
use Rattle.drf_role.specs.Path.{Path}
use Rattle.drf_bundle.specs.Quantities.{with_amount}
use Rattle.drf_bundle.specs.declared.quantities.Entry.{Entry}
use Rattle.drf_rows.specs.Consistent.{IsConsistent}
use Rattle.drf_rows.specs.Held.{clients_of}
use Rattle.drf_rows.specs.declared.rows.LimitRow.{LimitRow}
use Rattle.drf_rows.specs.declared.rows.Rows.{Rows}
use Rattle.drf_gates.specs.quota.Allowance.{Usage, used_at}
use Rattle.drf_show.specs.declared.limits.LimitLine.{LimitLine}

-- the rows are consistent, and few enough for sums to be below 2^64
pub record IsFit (rows : Rows) : Type 0 where
  pub consistent : IsConsistent rows
  pub agents : length rows.agents ≤ 4096
  pub next_offer : rows.next_offer < 2 ^ 64
  pub clients : length (clients_of rows) < 2 ^ 64

-- what a role consumes of each scalar that a limit names, according to the counted consumption
abbrev pub used_of : List Usage → Path → List Entry → List Entry
used_of used role limit = fold (λ sum e. with_amount sum e.label (used_at used role e.label)) [] limit

abbrev pub limit_line_by : List Usage → LimitRow → LimitLine
limit_line_by used l = record { role = l.role; limit = l.limit; consumed = used_of used l.role l.limit }
