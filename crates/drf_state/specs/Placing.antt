-- Adding rows one by one to tables and a sorter.
use Rattle.std.specs.Prelude.{◌≡◌, ℕ, ◌^◌, ◌<◌, ◌≤◌, false, true, length, nat_lt}
use Rattle.drf_rows.specs.Consistent.{IsConsistent}
use Rattle.drf_rows.specs.Held.{clients_of}
use Rattle.drf_rows.specs.Members.{has_agent, has_framework}
use Rattle.drf_rows.specs.Quota.{has_limit}
use Rattle.drf_rows.specs.Weights.{has_weight}
use Rattle.drf_rows.specs.declared.rows.Rows.{Rows}
use Rattle.drf_sorter.specs.Content.{Content}
use Rattle.drf_saved.specs.Saved.{with_row}
use Rattle.drf_saved.specs.declared.saved.SavedRow.{SavedRow}
use Rattle.drf_saved.specs.declared.saved.SavedRow.TheVariants.{Agent, Framework, Weight, Limit, Filter}
use Rattle.drf_state.specs.Restored.{PartsAgree}
use Rattle.drf_tables.specs.Stored.{Stored}

-- the name or role of the row is new, or its filter has not expired
abbrev pub IsApart : Rows → SavedRow → Type 0
IsApart rows (Agent a) = has_agent rows a.name ≡ false
IsApart rows (Framework f) = has_framework rows f.name ≡ false
IsApart rows (Weight w) = has_weight rows w.role ≡ false
IsApart rows (Limit l) = has_limit rows l.role ≡ false
IsApart rows (Filter f) = nat_lt rows.clock f.until ≡ true
IsApart rows row = Unit {0}

-- consistent rows after which a row is allowed: they stay consistent, and all numbers are in range
pub record FitsBehind (rows : Rows) (row : SavedRow) : Type 0 where
  pub consistent : IsConsistent rows
  pub together : IsConsistent (with_row rows row)
  pub agents : length (with_row rows row).agents ≤ 4096
  pub clients : length (clients_of (with_row rows row)) ≤ 4096
  pub next_offer : rows.next_offer < 2 ^ 64
  pub apart : IsApart rows row

-- the row was added after the others, and the parts agree
pub record IsPlaced (old : Rows) (row : SavedRow) (tables : Stored) (content : Content) (counted : ℕ) : Type 0 where
  pub rows : tables.rows ≡ with_row old row
  pub agree : PartsAgree tables content counted
