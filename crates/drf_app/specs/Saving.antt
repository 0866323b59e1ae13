-- The saved state of an allocator after the lines of an input.
use Rattle.std.specs.Prelude.{◌≡◌, ℕ, Bool, true, false, List, [], take, Option, Result, Ok, Err, OnOk}
use Rattle.std.specs.Io.KnownBytes.{Appends, Consumes, IsAtEnd}
use Rattle.drf_core.specs.Machine.{Machine}
use Rattle.drf_rows.specs.LimitNumbers.{LimitNumbers}
use Rattle.drf_rows.specs.declared.rows.Rows.{Rows}
use Rattle.drf_saved.specs.Epoch.{epoch}
use Rattle.drf_state.specs.State.{state_in, state_text}
use Rattle.drf_journal.specs.declared.fault.RunFault.{RunFault}
use Rattle.drf_journal.specs.declared.fault.RunFault.TheVariants.{Read, Write, Memory}
use Rattle.drf_journal.specs.Lines.{lines_of}
use Rattle.drf_journal.specs.Resumed.{resumed}

-- the rows as they are, or after an epoch
abbrev pub saved_of : Bool → Rows → Rows
saved_of true rows = epoch rows
saved_of false rows = rows

-- the text of rows, from which the rows can be read
pub record IsTextOf (limits : LimitNumbers) (rows : Rows) (bytes : List ℕ) : Type 0 where
  pub text : bytes ≡ state_text rows
  pub said : state_in limits bytes ≡ Ok rows

-- the text that is saved after the lines of an input, for an allocator in this state before them
abbrev pub IsSavedAfter : Machine → Bool → List ℕ → List ℕ → Type 0
IsSavedAfter machine new_epoch read text = IsTextOf machine.limits (saved_of new_epoch (resumed machine (lines_of read)).rows) text

-- what was written: the whole text on success, a prefix of it after a failed write, otherwise nothing
abbrev pub IsWritten : Machine → Bool → Result (Unit {0}) RunFault → List ℕ → List ℕ → Type 0
IsWritten machine new_epoch (Ok done) read written = IsSavedAfter machine new_epoch read written
IsWritten machine new_epoch (Err Read) read written = written ≡ []
IsWritten machine new_epoch (Err Write) read written =
    (text : List ℕ) × (count : ℕ) × IsSavedAfter machine new_epoch read text × (written ≡ take count text)
IsWritten machine new_epoch (Err Memory) read written = written ≡ []

-- bytes were read from a reader, and the state after their lines was written to a writer
pub record HasSaved (machine : Machine) (new_epoch : Bool)
    (unread_before unread_after written_before written_after : Option (List ℕ))
    (result : Result (Unit {0}) RunFault) : Type 0 where
  pub read : List ℕ
  pub written : List ℕ
  pub consumed : Consumes unread_before unread_after read
  pub appended : Appends written_before written_after written
  pub saved : IsWritten machine new_epoch result read written
  pub whole : OnOk result (IsAtEnd unread_after)
