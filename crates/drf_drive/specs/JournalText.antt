-- The text of a journal.
use Rattle.std.specs.Prelude.{◌≡◌, ℕ, Bool, true, false, List, ◌∷◌, ◌++◌, Option, Result, Err}
use Rattle.std.specs.List.{flat_map}
use Rattle.std.specs.Io.KnownBytes.{Appends}
use Rattle.drf_board.specs.declared.entry.Entry.{Entry}
use Rattle.drf_journal.specs.Device.{AppendsPrefixOf}
use Rattle.drf_journal.specs.declared.fault.RunFault.TheVariants.{Write, Memory}
use Rattle.drf_lines.specs.EventLine.{event_line}
use Rattle.drf_lines.specs.ReplyLine.{reply_line}
use Rattle.drf_drive.specs.declared.script.ScriptFault.{ScriptFault}
use Rattle.drf_drive.specs.declared.script.ScriptFault.TheVariants.{Run}

-- the line of an event, and the line of its reply
abbrev pub entry_text : Entry → List ℕ
entry_text entry = event_line entry.event ++ 10 ∷ reply_line entry.reply

-- the lines of all entries, in order
abbrev pub journal_text : List Entry → List ℕ
journal_text entries = flat_map entry_text entries

-- a prefix of a text was written, and the rest is still to be written
pub record HasSent (old new : Option (List ℕ)) (text waits : List ℕ) : Type 0 where
  pub sent : List ℕ
  pub appended : Appends old new sent
  pub whole : text ≡ sent ++ waits

-- a prefix of a text was written before the writer failed or memory ran out
abbrev pub IsCutOff : Option (List ℕ) → Option (List ℕ) → List ℕ → ScriptFault → Type 0
IsCutOff old new text (Run Write) = AppendsPrefixOf old new text
IsCutOff old new text (Run Memory) = AppendsPrefixOf old new text
IsCutOff old new text _ = ⊥

-- the writer failed
abbrev pub is_write_fault : Result (Unit {0}) ScriptFault → Bool
is_write_fault (Err (Run Write)) = true
is_write_fault _ = false
