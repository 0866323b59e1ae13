-- The streams of a command.
use Rattle.std.specs.Prelude.{ℕ, Bool, List, Option}
use Rattle.drf_journal.specs.declared.device.Device.{Device}

-- a stream: the bytes still to be read or already written, if they are known; the number of calls; and whether it failed
pub record Stream : Type 0 where
  pub bytes : Option (List ℕ)
  pub calls : ℕ
  pub failed : Bool

abbrev pub stream_of : {T : Type 0} → (T → Option (List ℕ)) → Device T → Stream
stream_of bytes device = record { bytes = bytes device.inner; calls = device.calls; failed = device.failed }

-- the three standard streams
pub record Streams : Type 0 where
  pub input : Stream
  pub output : Stream
  pub errors : Stream
