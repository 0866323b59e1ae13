-- How the results of the reader of a state relate to the meaning of its text.
use Rattle.std.specs.Prelude.{◌≡◌, ℕ, Bool, true, false, List, Some, None, Result, Ok, Err}
use Rattle.drf_rows.specs.LimitNumbers.{LimitNumbers}
use Rattle.drf_rows.specs.Step.{live_rows}
use Rattle.drf_core.specs.Machine.{Engine}
use Rattle.drf_saved_laws.specs.SavedLaws.{IsSaveable}
use Rattle.drf_state.specs.State.{Said, rows_behind, said_by, state_in, state_text}
use Rattle.drf_state.specs.declared.fault.StateError.{StateError}
use Rattle.drf_state.specs.declared.fault.StateError.TheVariants as error
use Rattle.drf_state.specs.declared.fault.StateFault.{StateFault}
use Rattle.drf_state.specs.declared.fault.LineStop.{LineStop}
use Rattle.drf_state.specs.declared.fault.LineStop.TheVariants as stop

-- an allocator with exactly the rows that a text means; they can be saved, and the text is theirs
pub record IsReadState (most : LimitNumbers) (bytes : List ℕ) (core : Engine) : Type 0 where
  pub said : state_in most bytes ≡ Ok core.rows
  pub text : bytes ≡ state_text core.rows
  pub saveable : IsSaveable most core.rows
  pub live : live_rows core.rows ≡ core.rows
  pub limits : core.limits ≡ most

-- the first error of a text, or out of memory
abbrev pub IsFaultOf : Said → StateError → Type 0
IsFaultOf said (error.Line number fault) = said ≡ Err (number, fault)
IsFaultOf said error.Memory = Unit {0}

-- the error of a line, or out of memory
abbrev pub IsStop : {A : Type 0} → Result A StateFault → LineStop → Type 0
IsStop said (stop.Fault fault) = said ≡ Err fault
IsStop said stop.Memory = Unit {0}

-- a line added to the rows, or ended the text
pub record HasTakenLine (old : Engine) (text : List ℕ) (lines : ℕ) (line : List ℕ) (new : Engine) (last : Bool) : Type 0 where
  pub limits : new.limits ≡ old.limits
  pub more : last ≡ false → rows_behind old.limits text lines old.rows line (said_by line) ≡ Ok (Some new.rows)
  pub end : last ≡ true → (rows_behind old.limits text lines old.rows line (said_by line) ≡ Ok None) × (new.rows ≡ old.rows)
