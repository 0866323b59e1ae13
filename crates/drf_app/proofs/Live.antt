-- What is saved does not include expired filters.
use Rattle.std.proofs.Common.{◌≡◌, Bool, true, false, ap}
use Rattle.drf_rows.specs.Step.{live_rows}
use Rattle.drf_rows.specs.declared.rows.Rows.{Rows}
use Rattle.drf_row_laws.proofs.LiveLaws.{live_rows-twice}
use Rattle.drf_saved.specs.Epoch.{epoch}
use Rattle.drf_app.specs.Saving.{saved_of}

pub saved_is_live : (new_epoch : Bool) (rows : Rows) → live_rows (saved_of new_epoch (live_rows rows)) ≡ saved_of new_epoch (live_rows rows)
saved_is_live true rows = ap epoch (live_rows-twice rows)
saved_is_live false rows = live_rows-twice rows
