-- When a sheet is that of a history.
use Rattle.std.specs.Prelude.{◌≡◌, List, length}
use Rattle.drf_rows.specs.LimitNumbers.{LimitNumbers}
use Rattle.drf_rows.specs.Report.{report_of}
use Rattle.drf_rows.specs.declared.rows.Rows.{Rows}
use Rattle.drf_board.specs.History.{rows_of}
use Rattle.drf_board.specs.declared.entry.Entry.{Entry}
use Rattle.drf_board.specs.declared.sheet.Sheet.{Sheet}

-- the sheet of a history that begins with the rows `start`: the number of its entries, and the report of the rows after them
pub record IsSheet (limits : LimitNumbers) (start : Rows) (entries : List Entry) (sheet : Sheet) : Type 0 where
  pub events : sheet.events ≡ length entries
  pub report : sheet.report ≡ report_of (rows_of limits start entries)
