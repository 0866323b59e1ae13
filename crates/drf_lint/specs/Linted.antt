-- The result of a lint of a stream: what it read and wrote.
use Rattle.std.specs.Prelude.{◌≡◌, ℕ, ◌-◌, ◌≤◌, Bool, List, ◌++◌, length, take, Option, Result, Ok, Err, OnOk}
use Rattle.std.specs.Io.KnownBytes.{Appends, Consumes, IsAtEnd}
use Rattle.drf_journal.specs.declared.fault.RunFault.{RunFault}
use Rattle.drf_journal.specs.declared.fault.RunFault.TheVariants.{Read, Write, Memory}
use Rattle.drf_journal.specs.Ended.{HaveEnded}
use Rattle.drf_journal.specs.Lines.{ended_lines_of, lines_of}
use Rattle.drf_lint.specs.Judged.{AreJudged}

-- the whole begins with this prefix
abbrev pub IsPrefixOf : List ℕ → List ℕ → Type 0
IsPrefixOf prefix whole = (rest : List ℕ) × (whole ≡ prefix ++ rest)

-- after a failed write: prefixes of the output for these lines were written
pub record AreJudgedInPart (write : Bool) (lines : List (List ℕ)) (written reported : List ℕ) : Type 0 where
  pub forms : List ℕ
  pub tellings : List ℕ
  pub faults : ℕ
  pub judged : AreJudged write lines forms tellings faults
  pub written_prefix : IsPrefixOf written forms
  pub reported_prefix : IsPrefixOf reported tellings

-- the output for the lines that were judged: complete, or a prefix after a failed write. On success the result is the number of lines that
-- are not events.
abbrev pub AreLinted : Bool → Result ℕ RunFault → List (List ℕ) → List ℕ → List ℕ → Type 0
AreLinted write (Ok faults) lines written reported = AreJudged write lines written reported faults
AreLinted write (Err Read) lines written reported = (faults : ℕ) × AreJudged write lines written reported faults
AreLinted write (Err Write) lines written reported = AreJudgedInPart write lines written reported
AreLinted write (Err Memory) lines written reported = (faults : ℕ) × AreJudged write lines written reported faults

-- which lines were judged: on success all, after a failed read all that had ended, and if memory ran out some first lines that had ended
abbrev pub AreReached : Result ℕ RunFault → List ℕ → List (List ℕ) → Type 0
AreReached (Ok faults) read lines = lines ≡ lines_of read
AreReached (Err Read) read lines = lines ≡ ended_lines_of read
AreReached (Err Write) read lines = Unit {0}
AreReached (Err Memory) read lines = length lines ≤ length (ended_lines_of read)

-- the complete output for these lines was written, and possibly more
pub record HasAllOf (write : Bool) (lines : List (List ℕ)) (written reported : List ℕ) : Type 0 where
  pub forms : List ℕ
  pub tellings : List ℕ
  pub faults : ℕ
  pub judged : AreJudged write lines forms tellings faults
  pub forms_first : IsPrefixOf forms written
  pub tellings_first : IsPrefixOf tellings reported

-- a lint read bytes from a reader, and wrote to one writer of events and to one of diagnoses. The lines that were judged are the first
-- ones, and had ended. In every case the output is complete for the lines that ended before the last 65,536 bytes.
pub record HasLinted (write : Bool)
    (unread_before unread_after written_before written_after reported_before reported_after : Option (List ℕ))
    (result : Result ℕ RunFault) : Type 0 where
  pub read : List ℕ
  pub written : List ℕ
  pub reported : List ℕ
  pub consumed : Consumes unread_before unread_after read
  pub appended : Appends written_before written_after written
  pub reported_appended : Appends reported_before reported_after reported
  pub lines : List (List ℕ)
  pub left : List (List ℕ)
  pub first : lines_of read ≡ lines ++ left
  pub linted : AreLinted write result lines written reported
  pub reached : AreReached result read lines
  pub ended : HaveEnded (length lines) read unread_after
  pub prompt : HasAllOf write (ended_lines_of (take (length read - 65536) read)) written reported
  pub whole : OnOk result (IsAtEnd unread_after)
