-- How a run ends: what it read and wrote, what its session has taken, and which device failed.
use Rattle.std.specs.Prelude.{◌≡◌, ℕ, ◌+◌, ◌-◌, ◌^◌, ◌≤◌, Bool, true, false, List, length, take, Option, Result, Ok, Err, ◌⊎◌, [], ⊤}
use Rattle.std.specs.Io.{StartsWith}
use Rattle.std.specs.Io.KnownBytes.{Appends, Consumes, IsAtEnd}
use Rattle.drf_core.specs.Machine.{Machine}
use Rattle.drf_journal.specs.declared.fault.RunFault.{RunFault}
use Rattle.drf_journal.specs.declared.fault.RunFault.TheVariants.{Read, Write, Memory}
use Rattle.drf_journal.specs.Device.{AppendsPrefixOf}
use Rattle.drf_journal.specs.Lines.{lines_of, ended_lines_of}
use Rattle.drf_journal.specs.Output.{output_of}
use Rattle.drf_journal.specs.State.{State, machine_after_lines, AnswersPrefixOf}

-- at `Ok`: all lines were answered, and their number is returned
pub record AnsweredAll (machine : Machine) (echo : Bool) (lines answered : ℕ) (read written : List ℕ) : Type 0 where
  pub output : written ≡ output_of machine echo (lines_of read)
  pub all_lines : answered ≡ length (lines_of read)
  pub reported : lines ≡ answered

-- after a failed read: all lines that had ended were answered
pub record AnsweredEnded (machine : Machine) (echo : Bool) (answered : ℕ) (read written : List ℕ) : Type 0 where
  pub output : written ≡ output_of machine echo (ended_lines_of read)
  pub all_ended : answered ≡ length (ended_lines_of read)

-- after a failed write: a prefix of the text for the answered lines was written
pub record WrotePrefix (machine : Machine) (echo : Bool) (answered : ℕ) (read written : List ℕ) : Type 0 where
  pub count : ℕ
  pub output : written ≡ take count (output_of machine echo (take answered (lines_of read)))

-- out of memory: the lines before the current one were answered, and all of them had ended
pub record AnsweredFirst (machine : Machine) (echo : Bool) (answered : ℕ) (read written : List ℕ) : Type 0 where
  pub output : written ≡ output_of machine echo (take answered (ended_lines_of read))
  pub had_ended : answered ≤ length (ended_lines_of read)

-- what was written for the bytes read, when the first `answered` lines were answered
abbrev pub IsAnswered : Machine → Bool → Result ℕ RunFault → ℕ → List ℕ → List ℕ → Type 0
IsAnswered machine echo (Ok lines) answered read written = AnsweredAll machine echo lines answered read written
IsAnswered machine echo (Err Read) answered read written = AnsweredEnded machine echo answered read written
IsAnswered machine echo (Err Write) answered read written = WrotePrefix machine echo answered read written
IsAnswered machine echo (Err Memory) answered read written = AnsweredFirst machine echo answered read written

-- this number of lines had ended, each by a line feed or the last by the end of the input
abbrev pub HaveEnded : ℕ → List ℕ → Option (List ℕ) → Type 0
HaveEnded number read unread_after = (number ≤ length (ended_lines_of read)) ⊎ IsAtEnd unread_after

-- a run of an allocator read bytes from a reader and wrote bytes to a writer. However it ended, the whole text was
-- written for the lines that had ended before the last 65,536 bytes.
pub record HasAnswered (machine : Machine) (echo : Bool)
    (unread_before unread_after written_before written_after : Option (List ℕ))
    (result : Result ℕ RunFault) : Type 0 where
  pub read : List ℕ
  pub written : List ℕ
  pub consumed : Consumes unread_before unread_after read
  pub appended : Appends written_before written_after written
  pub lines : ℕ
  pub answered : IsAnswered machine echo result lines read written
  pub ended : HaveEnded lines read unread_after
  pub prompt : StartsWith written (output_of machine echo (ended_lines_of (take (length read - 65536) read)))

-- after a failed write: `text` is the text for all answered lines of the chunk, and a prefix of it was written
pub record StoppedWriting (old : State) (piece : List ℕ) (new : State) (written_before written_after : Option (List ℕ)) : Type 0 where
  pub text : List ℕ
  pub answers : AnswersPrefixOf old piece (record new { unsent = text })
  pub prefix_sent : AppendsPrefixOf written_before written_after text

-- out of memory: the text for all answered lines of the chunk was written
pub record RanOutOfMemory (old : State) (piece : List ℕ) (new : State) (written_before written_after : Option (List ℕ)) : Type 0 where
  pub text : List ℕ
  pub answers : AnswersPrefixOf old piece (record new { unsent = text })
  pub nothing_unsent : new.unsent ≡ []
  pub sent : Appends written_before written_after text

-- a session stopped within a chunk of the input
unfoldable pub HasStopped : RunFault → State → List ℕ → State → Option (List ℕ) → Option (List ℕ) → Type 0
HasStopped Read old piece new written_before written_after = ⊥
HasStopped Write old piece new written_before written_after = StoppedWriting old piece new written_before written_after
HasStopped Memory old piece new written_before written_after = RanOutOfMemory old piece new written_before written_after

-- the allocator has taken the lines that were answered, or one more
pub record HasTaken (old new : Machine) (answered : ℕ) (read : List ℕ) (unread_after : Option (List ℕ)) : Type 0 where
  pub taken : ℕ
  pub machine : new ≡ machine_after_lines old (take taken (lines_of read))
  pub ahead : (taken ≡ answered) ⊎ (taken ≡ answered + 1)
  pub ended : HaveEnded taken read unread_after

-- a session has run in this way, and counts the lines that were answered
pub record HasServed (old : State)
    (unread_before unread_after written_before written_after : Option (List ℕ))
    (new : State) (result : Result ℕ RunFault) : Type 0 where
  pub run : HasAnswered old.machine old.echo unread_before unread_after written_before written_after result
  pub counted : new.lines ≡ run.lines
  pub taken : HasTaken old.machine new.machine run.lines run.read unread_after

-- everything that was written has been flushed, unless the writer failed
abbrev pub HasFlushed : {T : Type 0} → Result T RunFault → Bool → Type 0
HasFlushed (Ok reported) flushed = flushed ≡ true
HasFlushed (Err Read) flushed = flushed ≡ true
HasFlushed (Err Write) flushed = ⊤
HasFlushed (Err Memory) flushed = flushed ≡ true

-- `Read` is returned only if the reader failed or was called 2^40 times, and `Write` only if the writer failed;
-- otherwise neither failed
abbrev pub HasCause : {T : Type 0} → Result T RunFault → Bool → ℕ → Bool → Type 0
HasCause (Ok reported) reader_failed reads writer_failed = (reader_failed ≡ false) × (writer_failed ≡ false)
HasCause (Err Read) reader_failed reads writer_failed =
    ((reader_failed ≡ true) ⊎ (reads ≡ 2 ^ 40)) × (writer_failed ≡ false)
HasCause (Err Write) reader_failed reads writer_failed = (reader_failed ≡ false) × (writer_failed ≡ true)
HasCause (Err Memory) reader_failed reads writer_failed = (reader_failed ≡ false) × (writer_failed ≡ false)
