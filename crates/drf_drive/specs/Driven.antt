-- What a drive of files does: each file runs on its own thread, on one master.
use Rattle.std.specs.Prelude.{◌≡◌, ⊤, ◌⊎◌, ℕ, List, [], Option, Result, Ok, Err, All}
use Rattle.std.specs.Global.{Vec}
use Rattle.std.specs.Io.KnownBytes.{Appends}
use Rattle.drf_board.specs.History.{IsLegal}
use Rattle.drf_board.specs.declared.entry.Entry.{Entry}
use Rattle.drf_core.specs.Machine.{Machine}
use Rattle.drf_journal.specs.Device.{AppendsPrefixOf}
use Rattle.drf_journal.specs.declared.fault.RunFault.TheVariants.{Read, Write, Memory}
use Rattle.drf_master.specs.Matching.{IsFault, receipts_of}
use Rattle.drf_master.specs.Receipts.{Held}
use Rattle.drf_master.specs.Scripts.{HasDriven, HaveRun}
use Rattle.drf_master.specs.declared.driving.DriveFault.TheVariants as driving
use Rattle.drf_master.specs.declared.driving.Undriven.{Undriven}
use Rattle.drf_master.specs.declared.driving.Undriven.TheVariants.{Undone, Unfit}
use Rattle.drf_master.specs.declared.master.CloseRefused.{CloseRefused}
use Rattle.drf_master.specs.declared.matching.CloseFault.TheVariants as why
use Rattle.drf_rows.specs.LimitNumbers.{LimitNumbers}
use Rattle.drf_rows.specs.declared.event.Event.{Event}
use Rattle.drf_rows.specs.declared.reply.Reply.{Reply}
use Rattle.drf_rows.specs.declared.rows.Rows.{Rows}
use Rattle.drf_journal.specs.Files.{Known}
use Rattle.drf_drive.specs.Files.{HasUnread}
use Rattle.drf_drive.specs.JournalText.{journal_text}
use Rattle.drf_drive.specs.Scripts.{HasRefused, HasScripts}
use Rattle.drf_drive.specs.declared.script.Misfit.{Misfit}
use Rattle.drf_drive.specs.declared.script.ScriptFault.{ScriptFault}
use Rattle.drf_drive.specs.declared.script.ScriptFault.TheVariants.{Run, Unread, Line, Close}

-- the journal is a shuffle of scripts: each entry is an event of one script, with its reply, and the entries of a script are in its order;
-- the scripts were called with new passes
pub record IsShuffleOf (scripts : List (Vec Event)) (journal : List Entry) : Type 0 where
  pub passes : List Held
  pub unused : All (λ pass. pass.receipts ≡ []) passes
  pub replies : List (Vec Reply)
  pub driven : HasDriven passes scripts replies journal

-- a legal journal, from this starting state, that is a shuffle of the events of the files with these names
pub record IsJournalOfFiles (start : Machine) (known : Known) (names : List (List ℕ)) (journal : List Entry) : Type 0 where
  pub scripts : List (Vec Event)
  pub meant : HasScripts known names scripts
  pub legal : IsLegal start.limits start.rows journal
  pub shuffle : IsShuffleOf scripts journal

-- the passes have made all calls of the scripts, and no others; the journal is legal, from these rows, but it is not a shuffle of their receipts,
-- for this reason, which is not `Memory`
pub record HasMisfit (limits : LimitNumbers) (start : Rows) (scripts : List (Vec Event)) (misfit : Misfit) : Type 0 where
  pub passes : List Held
  pub unused : All (λ pass. pass.receipts ≡ []) passes
  pub replies : List (Vec Reply)
  pub run : HaveRun passes scripts replies (receipts_of misfit.passes.items)
  pub legal : IsLegal limits start misfit.journal.items
  pub fault : IsFault misfit.journal.items (receipts_of misfit.passes.items) misfit.fault
  pub found : ¬ (misfit.fault ≡ why.Memory)

-- why scripts gave no journal: memory ran out, or passes did not fit the journal; then both are returned
abbrev pub IsRunFault : LimitNumbers → Rows → List (Vec Event) → ScriptFault → Type 0
IsRunFault limits start scripts (Run Memory) = ⊤
IsRunFault limits start scripts (Close misfit) = HasMisfit limits start scripts misfit
IsRunFault limits start scripts _ = ⊥

-- ---- how the errors of `drf_master::drive` are reported

-- what was returned is passed on, and the error was not `Memory`
pub record IsHandedOn {K : Type 0} (refused : CloseRefused K) (misfit : Misfit) : Type 0 where
  pub fault : misfit.fault ≡ refused.fault
  pub journal : misfit.journal.items ≡ refused.book.entries
  pub passes : misfit.passes ≡ refused.passes
  pub found : ¬ (refused.fault ≡ why.Memory)

-- the error for passes that do not fit
abbrev pub IsReportedUnfit : {K : Type 0} → CloseRefused K → ScriptFault → Type 0
IsReportedUnfit refused (Run Memory) = ⊤
IsReportedUnfit refused (Close misfit) = IsHandedOn refused misfit
IsReportedUnfit refused _ = ⊥

-- the error for a drive that returned no book
abbrev pub IsReportedAs : {K : Type 0} → Undriven K → ScriptFault → Type 0
IsReportedAs (Undone fault) reported = reported ≡ Run Memory
IsReportedAs (Unfit refused) reported = IsReportedUnfit refused reported

-- no worker was stopped, and no pass has another key
abbrev pub IsTellable : {K : Type 0} → Undriven K → Type 0
IsTellable (Undone driving.Memory) = ⊤
IsTellable (Undone _) = ⊥
IsTellable (Unfit refused) = ⊤

-- ---- what was written

-- the files with these names were read, and all their lines are events, but the passes that ran them do not fit the journal
pub record HasNotClosed (start : Machine) (known : Known) (names : List (List ℕ)) (misfit : Misfit) : Type 0 where
  pub scripts : List (Vec Event)
  pub meant : HasScripts known names scripts
  pub handed_back : HasMisfit start.limits start.rows scripts misfit

-- the text of such a journal was written
pub record HasWritten (start : Machine) (known : Known) (names : List (List ℕ)) (old new : Option (List ℕ)) : Type 0 where
  pub journal : List Entry
  pub right : IsJournalOfFiles start known names journal
  pub appended : Appends old new (journal_text journal)

-- a prefix of such a text was written
pub record HasWrittenPrefix (start : Machine) (known : Known) (names : List (List ℕ)) (old new : Option (List ℕ)) : Type 0 where
  pub journal : List Entry
  pub right : IsJournalOfFiles start known names journal
  pub appended : AppendsPrefixOf old new (journal_text journal)

-- What was written for the files with these names. Without an error it is a whole journal. Nothing was written if a file could not be read,
-- a line is not an event, or the passes do not fit the journal. If a write failed, a prefix was written. If memory ran out, a prefix or nothing was.
abbrev pub HasDrivenFiles : Machine → Known → List (List ℕ) → Option (List ℕ) → Option (List ℕ) → Result (Unit {0}) ScriptFault → Type 0
HasDrivenFiles start known names old new (Ok done) = HasWritten start known names old new
HasDrivenFiles start known names old new (Err (Unread file)) = (new ≡ old) × HasUnread known names file
HasDrivenFiles start known names old new (Err (Run Read)) = ⊥
HasDrivenFiles start known names old new (Err (Run Write)) = HasWrittenPrefix start known names old new
HasDrivenFiles start known names old new (Err (Run Memory)) = (new ≡ old) ⊎ HasWrittenPrefix start known names old new
HasDrivenFiles start known names old new (Err (Line bad)) = (new ≡ old) × HasRefused known names bad
HasDrivenFiles start known names old new (Err (Close misfit)) = (new ≡ old) × HasNotClosed start known names misfit
