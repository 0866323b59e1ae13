-- The state that a task starts from, and why it could not start.
use Rattle.std.specs.Prelude.{◌≡◌, ℕ, Bool, List, [], Option, Some, None, Ok, Err, unwrap_or}
use Rattle.drf_core.specs.Machine.{Machine, opened}
use Rattle.drf_journal.specs.Files.{Known, IsFileFault, MayHave}
use Rattle.drf_journal.specs.declared.fault.RunFault.TheVariants.{Memory}
use Rattle.drf_rows.specs.LimitNumbers.{ceilings}
use Rattle.drf_state.specs.Fault.{state_fault_name, state_fault_number}
use Rattle.drf_state.specs.State.{state_in}
use Rattle.drf_state.specs.declared.fault.StateError.{StateError}
use Rattle.drf_state.specs.declared.fault.StateError.TheVariants as error
use Rattle.drf_state.specs.declared.fault.StateFault.{StateFault}
use Rattle.drf_app.specs.Streams.{Streams}
use Rattle.drf_app.specs.Reported.{HasReportedFile, HasReportedLine, refused_line}
use Rattle.drf_app.specs.declared.start.StartFault.{StartFault}
use Rattle.drf_app.specs.declared.start.StartFault.TheVariants.{Run, Line}

-- an allocator with the rows in the file with this name
pub record IsInFile (known : Known) (name : List ℕ) (machine : Machine) : Type 0 where
  pub bytes : List ℕ
  pub had : MayHave (known name) bytes
  pub said : state_in ceilings bytes ≡ Ok machine.rows
  pub limits : machine.limits ≡ ceilings

-- what a task starts from, with full limits, given what is known of files: an empty cluster, or the state in the file with this name
abbrev pub IsStart : Known → Option (List ℕ) → Machine → Type 0
IsStart known None machine = machine ≡ opened ceilings
IsStart known (Some name) machine = IsInFile known name machine

-- the file with this name is not a state: its first wrong line, with the first error of that line
pub record HasBadLine (known : Known) (name : List ℕ) (line : ℕ) (fault : StateFault) : Type 0 where
  pub bytes : List ℕ
  pub had : MayHave (known name) bytes
  pub said : state_in ceilings bytes ≡ Err (line, fault)

-- why a task could not start: memory ran out, the file cannot be read, or it is not a state
abbrev pub IsStartFault : Known → Option (List ℕ) → StartFault → Type 0
IsStartFault known None (Run fault) = fault ≡ Memory
IsStartFault known None (Line line fault) = ⊥
IsStartFault known (Some name) (Run fault) = IsFileFault (known name) fault
IsStartFault known (Some name) (Line line fault) = HasBadLine known name line fault

-- the error for a text that is not a state
abbrev pub start_fault_of : StateError → StartFault
start_fault_of (error.Line line fault) = Line line fault
start_fault_of error.Memory = Run Memory

-- the message for it, and the exit status
abbrev pub HasReportedStart : List ℕ → StartFault → ℕ → Option (List ℕ) → Option (List ℕ) → Bool → Type 0
HasReportedStart name (Run fault) answer old new failed = HasReportedFile name fault answer old new failed
HasReportedStart name (Line line fault) answer old new failed =
    HasReportedLine (refused_line name line (state_fault_number fault) (state_fault_name fault)) answer old new failed

-- a task could not start: no input was read, and no output was written
pub record HasNotStarted (known : Known) (from : Option (List ℕ)) (old new : Streams) (answer : ℕ) : Type 0 where
  pub fault : StartFault
  pub why : IsStartFault known from fault
  pub input : new.input ≡ old.input
  pub output : new.output ≡ old.output
  pub reported : HasReportedStart (unwrap_or from []) fault answer old.errors.bytes new.errors.bytes new.errors.failed
