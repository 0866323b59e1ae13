-- How a run with questions ends: what it read and wrote.
use Rattle.std.specs.Prelude.{◌≡◌, ℕ, ◌-◌, ◌≤◌, Bool, List, length, take, Option, Result, Ok, Err}
use Rattle.std.specs.Io.{StartsWith}
use Rattle.std.specs.Io.KnownBytes.{Appends, Consumes}
use Rattle.drf_core.specs.Machine.{Machine}
use Rattle.drf_journal.specs.declared.fault.RunFault.{RunFault}
use Rattle.drf_journal.specs.declared.fault.RunFault.TheVariants.{Read, Write, Memory}
use Rattle.drf_journal.specs.Ended.{HaveEnded}
use Rattle.drf_journal.specs.Lines.{lines_of, ended_lines_of}
use Rattle.drf_ask.specs.Asked.{asked_of, event_lines_of}

-- at `Ok`: all lines were answered, and the number of those that are not questions is returned
pub record AskedAll (machine : Machine) (echo : Bool) (reported answered : ℕ) (read written : List ℕ) : Type 0 where
  pub output : written ≡ asked_of machine echo (lines_of read)
  pub all_lines : answered ≡ length (lines_of read)
  pub events : reported ≡ length (event_lines_of (lines_of read))

-- after a failed read: all lines that had ended were answered
pub record AskedEnded (machine : Machine) (echo : Bool) (answered : ℕ) (read written : List ℕ) : Type 0 where
  pub output : written ≡ asked_of machine echo (ended_lines_of read)
  pub all_ended : answered ≡ length (ended_lines_of read)

-- after a failed write: a prefix of the text for the lines up to the current one was written
pub record AskedPrefix (machine : Machine) (echo : Bool) (answered : ℕ) (read written : List ℕ) : Type 0 where
  pub count : ℕ
  pub output : written ≡ take count (asked_of machine echo (take answered (lines_of read)))

-- out of memory: the lines before the current one were answered, and all of them had ended
pub record AskedFirst (machine : Machine) (echo : Bool) (answered : ℕ) (read written : List ℕ) : Type 0 where
  pub output : written ≡ asked_of machine echo (take answered (ended_lines_of read))
  pub had_ended : answered ≤ length (ended_lines_of read)

-- what was written for the bytes read, when the first `answered` lines were answered
abbrev pub IsAsked : Machine → Bool → Result ℕ RunFault → ℕ → List ℕ → List ℕ → Type 0
IsAsked machine echo (Ok reported) answered read written = AskedAll machine echo reported answered read written
IsAsked machine echo (Err Read) answered read written = AskedEnded machine echo answered read written
IsAsked machine echo (Err Write) answered read written = AskedPrefix machine echo answered read written
IsAsked machine echo (Err Memory) answered read written = AskedFirst machine echo answered read written

-- a run of an allocator read bytes from a reader and wrote bytes to a writer. However it ended, the whole text was
-- written for the lines that had ended before the last 65,536 bytes.
pub record HasAsked (machine : Machine) (echo : Bool)
    (unread_before unread_after written_before written_after : Option (List ℕ))
    (result : Result ℕ RunFault) : Type 0 where
  pub read : List ℕ
  pub written : List ℕ
  pub consumed : Consumes unread_before unread_after read
  pub appended : Appends written_before written_after written
  pub lines : ℕ
  pub answered : IsAsked machine echo result lines read written
  pub ended : HaveEnded lines read unread_after
  pub prompt : StartsWith written (asked_of machine echo (ended_lines_of (take (length read - 65536) read)))
