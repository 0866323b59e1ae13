-- What `drf lint` does, and its exit status.
use Rattle.std.specs.Prelude.{◌≡◌, ℕ, zero, suc, Bool, true, false, ◌||◌, List, Option, Result, Ok, Err}
use Rattle.std.specs.Io.KnownBytes.{Keeps}
use Rattle.drf_journal.specs.Ended.{HasCause}
use Rattle.drf_journal.specs.declared.fault.RunFault.{RunFault}
use Rattle.drf_lint.specs.Linted.{HasLinted}
use Rattle.drf_app.specs.Streams.{Stream, Streams}
use Rattle.drf_app.specs.Reported.{IsReported, fault_line}

-- 0 if all lines are events, 3 if some are not, 1 after an error
abbrev pub lint_status : Result ℕ RunFault → ℕ
lint_status (Ok zero) = 0
lint_status (Ok (suc faults)) = 3
lint_status (Err fault) = 1

-- the message about an error, which is not written if standard error itself has failed
abbrev pub IsLintEnd : Result ℕ RunFault → (failed_before : Bool) → Option (List ℕ) → Option (List ℕ) → Bool → Type 0
IsLintEnd (Ok faults) before old new failed = (new ≡ old) × (failed ≡ before)
IsLintEnd (Err fault) false old new failed = IsReported (fault_line fault) old new failed
IsLintEnd (Err fault) true old new failed = (new ≡ old) × (failed ≡ true)

-- the lines were read; the events were written to one stream, and the reports about other lines to another
pub record IsLookedAt (write : Bool) (read_before read_after written_before written_after reported_before reported_after : Stream)
    (ended : Result ℕ RunFault) : Type 0 where
  pub linted : HasLinted write read_before.bytes read_after.bytes written_before.bytes written_after.bytes reported_before.bytes reported_after.bytes ended
  pub cause : HasCause ended read_after.failed read_after.calls (written_after.failed || reported_after.failed)

-- reports go to standard output; with `write`, they go to standard error, and the events to standard output
abbrev pub IsLooked : Bool → Streams → Streams → Result ℕ RunFault → Type 0
IsLooked true old new ended = IsLookedAt true old.input new.input old.output new.output old.errors new.errors ended
IsLooked false old new ended = IsLookedAt false old.input new.input old.errors new.errors old.output new.output ended

-- all lines were read, or an error stopped the command and was reported
pub record IsLinted (write : Bool) (old new : Streams) (answer : ℕ) : Type 0 where
  pub looked : Streams
  pub ended : Result ℕ RunFault
  pub is_looked : IsLooked write old looked ended
  pub input : new.input ≡ looked.input
  pub output : Keeps looked.output.bytes new.output.bytes
  pub status : answer ≡ lint_status ended
  pub reported : IsLintEnd ended looked.errors.failed looked.errors.bytes new.errors.bytes new.errors.failed
