-- The result of writing a text in several parts.
use Rattle.std.specs.Prelude.{◌≡◌, ℕ, Bool, false, true, List, Option, Result, OnOk, OnErr}
use Rattle.std.specs.Io.KnownBytes.{Appends}
use Rattle.drf_journal.specs.Device.{AppendsPrefixOf}
use Rattle.drf_journal.specs.Ended.{HasCause, HasFlushed}
use Rattle.drf_journal.specs.declared.device.Device.{Device}
use Rattle.drf_journal.specs.declared.fault.RunFault.{RunFault}

-- a writer: its content, if that is known, whether it failed, and whether all of it was flushed
pub record Output : Type 0 where
  pub bytes : Option (List ℕ)
  pub failed : Bool
  pub flushed : Bool

abbrev pub output_of : {T : Type 0} → (T → Option (List ℕ)) → Device T → Output
output_of bytes device = record { bytes = bytes device.inner; failed = device.failed; flushed = device.flushed }

-- on success the whole text was written, otherwise a prefix of it
pub record HasWritten (text : List ℕ) (old new : Output) (result : Result (Unit {0}) RunFault) : Type 0 where
  pub whole : OnOk result (Appends old.bytes new.bytes text)
  pub prefix : OnErr result (AppendsPrefixOf old.bytes new.bytes text)
  pub cause : old.failed ≡ false → HasCause result false 0 new.failed
  pub sent : old.flushed ≡ true → HasFlushed result new.flushed
