-- The state of a lint between two reads, and what a line and a chunk of the input do to it.
use Rattle.std.specs.Prelude.{◌≡◌, ℕ, ◌+◌, ◌<◌, ◌≤◌, Bool, List, [], ◌++◌, length, Option, Err}
use Rattle.std.specs.Io.KnownBytes.{Appends}
use Rattle.drf_lines.specs.Meaning.{meaning_of}
use Rattle.drf_journal.specs.declared.fault.RunFault.{RunFault}
use Rattle.drf_journal.specs.declared.fault.RunFault.TheVariants.{Read, Write, Memory}
use Rattle.drf_journal.specs.Device.{AppendsPrefixOf}
use Rattle.drf_journal.specs.Lines.{ended_lines_of, open_line_of}
use Rattle.drf_journal.specs.Output.{kept_of}
use Rattle.drf_lint.specs.declared.linter.Linter.{Linter}
use Rattle.drf_lint.specs.Judged.{form_of, faults_of, IsReportedOf, AreJudged}
use Rattle.drf_lint.specs.Linted.{AreLinted}

-- whether events are written, the bytes stored of the open line, how many lines have ended, and how many of these are not events
pub record Lint : Type 0 where
  pub write : Bool
  pub prefix : List ℕ
  pub lines : ℕ
  pub faults : ℕ

abbrev pub lint_of : Linter → Lint
lint_of l = record { write = l.write; prefix = l.prefix; lines = l.lines; faults = l.faults }

-- a lint that has read nothing
abbrev pub begun : Bool → Lint
begun write = record { write = write; prefix = []; lines = 0; faults = 0 }

-- ---- one line

-- the complete output for the line with this number was written
pub record HasJudged (write : Bool) (number : ℕ) (line : List ℕ) (faults : ℕ)
    (written_before written_after reported_before reported_after : Option (List ℕ)) : Type 0 where
  pub reported : List ℕ
  pub is_reported : IsReportedOf number line (meaning_of line) reported
  pub count : faults ≡ faults_of (meaning_of line)
  pub appended : Appends written_before written_after (form_of write (meaning_of line))
  pub reported_appended : Appends reported_before reported_after reported

-- prefixes of that output were written
pub record HasJudgedInPart (write : Bool) (number : ℕ) (line : List ℕ)
    (written_before written_after reported_before reported_after : Option (List ℕ)) : Type 0 where
  pub reported : List ℕ
  pub is_reported : IsReportedOf number line (meaning_of line) reported
  pub prefix : AppendsPrefixOf written_before written_after (form_of write (meaning_of line))
  pub reported_prefix : AppendsPrefixOf reported_before reported_after reported

-- nothing was written
pub record HasJudgedNothing (written_before written_after reported_before reported_after : Option (List ℕ)) : Type 0 where
  pub nothing : Appends written_before written_after []
  pub nothing_reported : Appends reported_before reported_after []

-- a lint stopped with this error at the line with this number
abbrev pub HasStoppedAt : RunFault → Bool → ℕ → List ℕ → (written_before written_after reported_before reported_after : Option (List ℕ)) → Type 0
HasStoppedAt Read write number line written_before written_after reported_before reported_after = ⊥
HasStoppedAt Write write number line written_before written_after reported_before reported_after =
    HasJudgedInPart write number line written_before written_after reported_before reported_after
HasStoppedAt Memory write number line written_before written_after reported_before reported_after =
    HasJudgedNothing written_before written_after reported_before reported_after

-- the open line ended with these bytes, and was judged
pub record HasEnded (old : Lint) (end : List ℕ) (new : Lint)
    (written_before written_after reported_before reported_after : Option (List ℕ)) : Type 0 where
  pub faults : ℕ
  pub judged : HasJudged old.write (old.lines + 1) (old.prefix ++ end) faults written_before written_after reported_before reported_after
  pub new_is : new ≡ record { write = old.write; prefix = []; lines = old.lines + 1; faults = old.faults + faults }

-- the input ended, and the bytes after its last line feed were judged, if there were any
pub record HasClosed (old new : Lint) (written_before written_after reported_before reported_after : Option (List ℕ)) : Type 0 where
  pub none : length old.prefix ≡ 0 → (new ≡ old) × HasJudgedNothing written_before written_after reported_before reported_after
  pub some : 0 < length old.prefix → HasEnded old [] new written_before written_after reported_before reported_after

-- ---- chunks of the input

-- of the bytes read, all lines that have ended were judged, with this output; the other bytes are the open line
pub record IsLintedTo (read : List ℕ) (lint : Lint) (written reported : List ℕ) : Type 0 where
  pub prefix : lint.prefix ≡ kept_of (open_line_of read)
  pub lines : lint.lines ≡ length (ended_lines_of read)
  pub judged : AreJudged lint.write (ended_lines_of read) written reported lint.faults

-- while a lint judges lines, the only errors are those of writes and of memory
abbrev pub IsStop : RunFault → Type 0
IsStop Read = ⊥
IsStop fault = Unit {0}

-- before a lint stopped, this was written for some first lines among those that had ended in the bytes read
pub record IsStoppedIn (fault : RunFault) (write : Bool) (read written reported : List ℕ) : Type 0 where
  pub lines : List (List ℕ)
  pub left : List (List ℕ)
  pub first : ended_lines_of read ≡ lines ++ left
  pub stop : IsStop fault
  pub linted : AreLinted write (Err fault) lines written reported

-- the lint has judged the lines that end in a chunk
pub record HasTaken (piece : List ℕ) (old new : Lint)
    (written_before written_after reported_before reported_after : Option (List ℕ)) : Type 0 where
  pub written : List ℕ
  pub reported : List ℕ
  pub appended : Appends written_before written_after written
  pub reported_appended : Appends reported_before reported_after reported
  pub write : new.write ≡ old.write
  pub few : new.lines ≤ old.lines + length piece
  pub counted : new.faults ≤ new.lines
  pub goes_on : (read before reported_then : List ℕ) → IsLintedTo read old before reported_then
      → IsLintedTo (read ++ piece) new (before ++ written) (reported_then ++ reported)

-- the lint stopped within a chunk
pub record HasStoppedIn (fault : RunFault) (piece : List ℕ) (old : Lint)
    (written_before written_after reported_before reported_after : Option (List ℕ)) : Type 0 where
  pub written : List ℕ
  pub reported : List ℕ
  pub appended : Appends written_before written_after written
  pub reported_appended : Appends reported_before reported_after reported
  pub stops : (read before reported_then : List ℕ) → IsLintedTo read old before reported_then
      → IsStoppedIn fault old.write (read ++ piece) (before ++ written) (reported_then ++ reported)
