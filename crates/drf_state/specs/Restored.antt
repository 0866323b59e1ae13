-- Properties of an allocator that is being restored row by row.
use Rattle.std.specs.Prelude.{◌≡◌, ℕ, ◌≤◌, false, true, Option, None, Some}
use Rattle.drf_rows.specs.Consistent.{offers_counted}
use Rattle.drf_rows.specs.LimitNumbers.{LimitNumbers, IsWithinCeilings}
use Rattle.drf_rows.specs.Step.{live_rows}
use Rattle.drf_sorter.specs.Content.{Content}
use Rattle.drf_sorter.specs.Work.{Work}
use Rattle.drf_content.specs.Content.{content_of}
use Rattle.drf_core.specs.Machine.{Engine}
use Rattle.drf_saved.specs.Saved.{begun, with_row, head_fault, row_fault}
use Rattle.drf_saved.specs.declared.fault.RowFault.{RowFault}
use Rattle.drf_saved.specs.declared.saved.Head.{Head}
use Rattle.drf_saved.specs.declared.saved.SavedRow.{SavedRow}
use Rattle.drf_saved.specs.declared.saved.SavedRow.TheVariants.{Framework}
use Rattle.drf_saved_laws.specs.SavedLaws.{IsSaveable}
use Rattle.drf_tables.specs.Stored.{Stored}
use Rattle.drf_state.specs.declared.fault.RestoreError.{RestoreError}
use Rattle.drf_state.specs.declared.fault.RestoreError.TheVariants.{Fault, Memory}

-- Tables without expired filters, in which free resources are known and consumption is not counted yet; the content of
-- the sorter; and the sum of the counts of the clients.
pub record PartsAgree (tables : Stored) (content : Content) (counted : ℕ) : Type 0 where
  pub live : live_rows tables.rows ≡ tables.rows
  pub settled : tables.settled ≡ true
  pub uncounted : tables.counted ≡ false
  pub sorted : content ≡ content_of tables.rows
  pub counts : counted ≡ offers_counted tables.rows.frameworks

-- parts that agree, for rows that can be saved within the capacities
pub record IsRestored (limits : LimitNumbers) (tables : Stored) (content : Content) (counted : ℕ) : Type 0 where
  pub ceilings : IsWithinCeilings limits
  pub saveable : IsSaveable limits tables.rows
  pub agree : PartsAgree tables content counted

-- the sorter computed keys only for the clients of a framework
abbrev pub HasWorked : SavedRow → Work → Work → Type 0
HasWorked (Framework f) old new = old.made ≤ new.made
HasWorked row old new = new.made ≡ old.made

-- an allowed head, with no rows and no key computed yet
pub record IsBegunWith (given : LimitNumbers) (head : Head) (new : Engine) : Type 0 where
  pub fits : head_fault given head ≡ None
  pub limits : new.limits ≡ given
  pub rows : new.rows ≡ begun head
  pub work : new.work ≡ record { made = 0; marked = 0 }

-- an allowed row, added after the others
pub record IsPut (old : Engine) (row : SavedRow) (new : Engine) : Type 0 where
  pub fits : row_fault old.limits old.rows row ≡ None
  pub limits : new.limits ≡ old.limits
  pub rows : new.rows ≡ with_row old.rows row
  pub worked : HasWorked row old.work new.work

-- why a head was not accepted or a row not added: the first case that holds, or out of memory
abbrev pub IsReported : Option RowFault → RestoreError → Type 0
IsReported first (Fault fault) = first ≡ Some fault
IsReported first Memory = Unit {0}
