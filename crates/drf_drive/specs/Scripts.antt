-- The events of files.
use Rattle.std.specs.Prelude.{◌≡◌, ⊤, ℕ, ◌+◌, List, [], ◌∷◌, ◌++◌, length, map, Option, None, Some, Result, Ok, Err}
use Rattle.std.specs.Global.{Vec}
use Rattle.drf_journal.specs.Lines.{lines_of}
use Rattle.drf_journal.specs.declared.fault.RunFault.TheVariants.{Memory}
use Rattle.drf_lines.specs.Meaning.{meaning_of}
use Rattle.drf_lines.specs.declared.fault.LineError.{LineError}
use Rattle.drf_lines.specs.declared.fault.LineError.TheVariants.{Fault}
use Rattle.drf_lines.specs.declared.fault.LineError.TheVariants as errors
use Rattle.drf_lines.specs.declared.fault.LineFault.{LineFault}
use Rattle.drf_rows.specs.declared.event.Event.{Event}
use Rattle.drf_journal.specs.Files.{Known}
use Rattle.drf_drive.specs.Files.{AreContents, HasUnread}
use Rattle.drf_drive.specs.declared.script.BadLine.{BadLine}
use Rattle.drf_drive.specs.declared.script.Script.{Script}
use Rattle.drf_drive.specs.declared.script.ScriptFault.{ScriptFault}
use Rattle.drf_drive.specs.declared.script.ScriptFault.TheVariants.{Run, Unread, Line}

-- what each line of a file means: an event, or an error
abbrev pub meanings_of : List ℕ → List (Result Event LineFault)
meanings_of bytes = map meaning_of (lines_of bytes)

-- the same for lines that are all events
abbrev pub as_meant : List Event → List (Result Event LineFault)
as_meant events = map (λ (event : Event). Ok event) events

-- the events are those of the file's lines, all of which are events
abbrev pub IsScript : List ℕ → List Event → Type 0
IsScript bytes events = meanings_of bytes ≡ as_meant events

-- each script has the events of its file
abbrev pub AreScripts : List (List ℕ) → List (Vec Event) → Type 0
AreScripts [] [] = Unit {0}
AreScripts (bytes ∷ contents) (script ∷ scripts) = IsScript bytes script.items × AreScripts contents scripts
AreScripts _ _ = ⊥

-- ---- the first line that is not an event

-- the lines before it are these events
pub record IsStoppedAt (bytes : List ℕ) (before : List Event) (fault : LineFault) : Type 0 where
  pub after : List (Result Event LineFault)
  pub lines : meanings_of bytes ≡ as_meant before ++ Err fault ∷ after

-- the lines before it are events; its number counts from 1
pub record IsFirstBadLine (bytes : List ℕ) (number : ℕ) (fault : LineFault) : Type 0 where
  pub before : List Event
  pub stopped : IsStoppedAt bytes before fault
  pub place : number ≡ length before + 1

-- all lines of the files before it are events; the index of its file counts from 0
pub record IsFirstBad (contents : List (List ℕ)) (bad : BadLine) : Type 0 where
  pub before : List (List ℕ)
  pub bytes : List ℕ
  pub after : List (List ℕ)
  pub files : contents ≡ before ++ bytes ∷ after
  pub place : bad.file ≡ length before
  pub scripts : List (Vec Event)
  pub good : AreScripts before scripts
  pub first : IsFirstBadLine bytes bad.line bad.fault

-- ---- why there are no scripts

-- the line is not an event, or memory ran out
abbrev pub IsNoEvent : List ℕ → LineError → Type 0
IsNoEvent line (Fault fault) = meaning_of line ≡ Err fault
IsNoEvent line errors.Memory = ⊤

-- the lines before the first that is not an event are these events, or memory ran out
abbrev pub IsStoppedAfter : List ℕ → List Event → LineError → Type 0
IsStoppedAfter bytes events (Fault fault) = IsStoppedAt bytes events fault
IsStoppedAfter bytes events errors.Memory = ⊤

-- the events of a file: all of them, or those before the first line that is not an event
abbrev pub AreEventsOf : List ℕ → List Event → Option LineError → Type 0
AreEventsOf bytes events None = IsScript bytes events
AreEventsOf bytes events (Some error) = IsStoppedAfter bytes events error

-- what was read of a file
abbrev pub IsScriptOf : List ℕ → Script → Type 0
IsScriptOf bytes script = AreEventsOf bytes script.events.items script.stop

-- this is the first line that is not an event, in the first such file, or memory ran out
abbrev pub HaveBadLine : List (List ℕ) → ScriptFault → Type 0
HaveBadLine contents (Run Memory) = ⊤
HaveBadLine contents (Line bad) = IsFirstBad contents bad
HaveBadLine contents _ = ⊥

-- the files with these names were read, and this is the first line that is not an event
pub record HasRefused (known : Known) (names : List (List ℕ)) (bad : BadLine) : Type 0 where
  pub contents : List (List ℕ)
  pub read : AreContents known names contents
  pub first : IsFirstBad contents bad

-- a file cannot be read, a line is not an event, or memory ran out
abbrev pub IsUnreadable : Known → List (List ℕ) → ScriptFault → Type 0
IsUnreadable known names (Unread file) = HasUnread known names file
IsUnreadable known names (Run Memory) = ⊤
IsUnreadable known names (Line bad) = HasRefused known names bad
IsUnreadable known names _ = ⊥

-- ---- scripts

-- the scripts have the events of the files with these names
pub record HasScripts (known : Known) (names : List (List ℕ)) (scripts : List (Vec Event)) : Type 0 where
  pub contents : List (List ℕ)
  pub read : AreContents known names contents
  pub meant : AreScripts contents scripts

-- the event of a line was appended
pub record Takes (line : List ℕ) (old new : List Event) : Type 0 where
  pub event : Event
  pub meant : meaning_of line ≡ Ok event
  pub added : new ≡ old ++ event ∷ []

-- ---- files that were all read

-- all lines of a file are events, namely these
pub record IsWhole (script : Script) (events : Vec Event) : Type 0 where
  pub whole : script.stop ≡ None
  pub same : script.events ≡ events

-- the same for each file
abbrev pub AreWhole : List Script → List (Vec Event) → Type 0
AreWhole [] [] = Unit {0}
AreWhole (script ∷ scripts) (events ∷ more) = IsWhole script events × AreWhole scripts more
AreWhole _ _ = ⊥

-- why not all lines of the file at this index are events
abbrev pub IsStoppedBy : ℕ → Script → ScriptFault → Type 0
IsStoppedBy file script (Run Memory) = script.stop ≡ Some errors.Memory
IsStoppedBy file script (Line bad) =
    (bad.file ≡ file) × ((bad.line ≡ length script.events.items + 1) × (script.stop ≡ Some (Fault bad.fault)))
IsStoppedBy file script _ = ⊥

-- all lines of the files before this one are events
pub record IsFirstStop (scripts : List Script) (bad : BadLine) : Type 0 where
  pub before : List Script
  pub script : Script
  pub after : List Script
  pub scripts_are : scripts ≡ before ++ script ∷ after
  pub events : List (Vec Event)
  pub whole : AreWhole before events
  pub stopped : IsStoppedBy (length before) script (Line bad)

-- the first file with a line that is not an event, or memory ran out
abbrev pub HaveStopped : List Script → ScriptFault → Type 0
HaveStopped scripts (Run Memory) = ⊤
HaveStopped scripts (Line bad) = IsFirstStop scripts bad
HaveStopped scripts _ = ⊥
