-- What happens if the arguments name no task.
use Rattle.std.specs.Prelude.{◌≡◌, ℕ, ◌⊎◌, List, Result, IfErr, is_err}
use Rattle.clap.specs.declared.error.kind.ErrorKind.{ErrorKind}
use Rattle.clap.specs.declared.error.kind.ErrorKind.TheVariants.{OutOfMemory, DisplayHelp, DisplayVersion}
use Rattle.drf_journal.specs.declared.fault.RunFault.{RunFault}
use Rattle.drf_journal.specs.declared.fault.RunFault.TheVariants.{Write, Memory}
use Rattle.drf_app.specs.Streams.{Streams}
use Rattle.drf_app.specs.Reported.{IsReported, IsReportedOf, fault_line, status_of}

-- memory ran out before anything was written
pub record HasNoMemory (old new : Streams) (answer : ℕ) : Type 0 where
  pub input : new.input ≡ old.input
  pub output : new.output ≡ old.output
  pub status : answer ≡ 1
  pub reported : IsReported (fault_line Memory) old.errors.bytes new.errors.bytes new.errors.failed

-- help or the version was written
pub record HasShown (old new : Streams) (answer : ℕ) : Type 0 where
  pub ended : Result (Unit {0}) RunFault
  pub text : List ℕ
  pub input : new.input ≡ old.input
  pub shown : IsReported text old.output.bytes new.output.bytes new.output.failed
  pub fault : IfErr ended (λ fault. fault ≡ Write)
  pub cause : new.output.failed ≡ is_err ended
  pub status : answer ≡ status_of ended
  pub reported : IsReportedOf ended old.errors.bytes new.errors.bytes new.errors.failed

-- the message about wrong arguments was written
pub record HasExplained (old new : Streams) (answer : ℕ) : Type 0 where
  pub text : List ℕ
  pub input : new.input ≡ old.input
  pub output : new.output ≡ old.output
  pub status : answer ≡ 2
  pub reported : IsReported text old.errors.bytes new.errors.bytes new.errors.failed

-- what is written for each kind of refusal
abbrev pub HasRefused : ErrorKind → Streams → Streams → ℕ → Type 0
HasRefused OutOfMemory old new answer = HasNoMemory old new answer
HasRefused DisplayHelp old new answer = HasShown old new answer ⊎ HasNoMemory old new answer
HasRefused DisplayVersion old new answer = HasShown old new answer ⊎ HasNoMemory old new answer
HasRefused mistake old new answer = HasExplained old new answer ⊎ HasNoMemory old new answer
