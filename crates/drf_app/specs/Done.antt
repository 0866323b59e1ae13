-- What each command reads, writes and reports, and its exit status.
use Rattle.std.specs.Prelude.{◌≡◌, ℕ, Bool, true, false, ◌⊎◌, List, [], ◌∷◌, ◌++◌, Option, Result, OnOk, option_map, codes}
use Rattle.std.specs.Io.KnownBytes.{IsAtEnd}
use Rattle.clap.specs.Words.{kind_of}
use Rattle.clap.specs.declared.error.Error.{Error}
use Rattle.drf_ask.specs.Ended.{HasAsked}
use Rattle.drf_core.specs.Machine.{Machine}
use Rattle.drf_drive.specs.Driven.{HasDrivenFiles}
use Rattle.drf_drive.specs.JournalText.{is_write_fault}
use Rattle.drf_drive.specs.declared.script.ScriptFault.{ScriptFault}
use Rattle.drf_journal.specs.Files.{Known}
use Rattle.drf_journal.specs.Audited.{HasAudited, HasReportedOfRows, cycle_text}
use Rattle.drf_journal.specs.Ended.{HasAnswered, HasCause}
use Rattle.drf_journal.specs.declared.fault.RunFault.{RunFault}
use Rattle.drf_journal.specs.declared.journal.Verdict.{Verdict}
use Rattle.drf_rows.specs.declared.rows.Rows.{Rows}
use Rattle.drf_show.specs.Showing.{HasShown as HasShownRows}
use Rattle.drf_show.specs.declared.form.Form.{Form}
use Rattle.drf_show.specs.declared.form.Form.TheVariants.{Aligned, Json}
use Rattle.drf_app.specs.Saving.{HasSaved as HasSavedState}
use Rattle.drf_app.specs.Starts.{HasNotStarted, IsStart}
use Rattle.drf_app.specs.Refused.{HasRefused}
use Rattle.drf_app.specs.Streams.{Streams}
use Rattle.drf_app.specs.Reported.{IsReported, IsReportedOf, status_of}
use Rattle.drf_why.specs.Asked.{asked_text, summed_text}
use Rattle.drf_app.specs.Drives.{HasReportedDrive}
use Rattle.drf_app.specs.Line.{Asks, AsksDrive, Drive, IsRefused, drive_of}
use Rattle.drf_app.specs.Lints.{IsLinted}
use Rattle.drf_app.specs.Verdicts.{IsJudged, check_status}
use Rattle.drf_app.specs.declared.request.Request.{Request}
use Rattle.drf_app.specs.declared.request.Scope.{Scope}
use Rattle.drf_app.specs.declared.request.Scope.TheVariants.{Short, Each, Summary, Several}
use Rattle.drf_app.specs.declared.request.Task.{Task}
use Rattle.drf_app.specs.declared.request.Task.TheVariants.{Run, Check, Audit, Explain, Save, Show, Lint}

-- the lines of the input were replied to; with `ask`, its questions too
abbrev pub HasAnsweredAs : (ask : Bool) → Machine → Bool → (unread_before unread_after written_before written_after : Option (List ℕ))
    → Result ℕ RunFault → Type 0
HasAnsweredAs false = HasAnswered
HasAnsweredAs true = HasAsked

-- `drf run`, from this state
pub record HasRun (machine : Machine) (echo ask : Bool) (old new : Streams) (answer : ℕ) : Type 0 where
  pub ended : Result ℕ RunFault
  pub run : HasAnsweredAs ask machine echo old.input.bytes new.input.bytes old.output.bytes new.output.bytes ended
  pub whole : OnOk ended (IsAtEnd new.input.bytes)
  pub cause : HasCause ended new.input.failed new.input.calls new.output.failed
  pub status : answer ≡ status_of ended
  pub reported : IsReportedOf ended old.errors.bytes new.errors.bytes new.errors.failed

-- `drf check`, from this state
pub record HasChecked (machine : Machine) (old new : Streams) (answer : ℕ) : Type 0 where
  pub ended : Result Verdict RunFault
  pub judged : IsJudged machine old.input.bytes ended old.output.bytes new.output.bytes
  pub cause : HasCause ended new.input.failed new.input.calls new.output.failed
  pub status : answer ≡ check_status ended
  pub reported : IsReportedOf ended old.errors.bytes new.errors.bytes new.errors.failed

-- `drf audit`, from this state
pub record HasAudit (machine : Machine) (old new : Streams) (answer : ℕ) : Type 0 where
  pub ended : Result (Unit {0}) RunFault
  pub audited : HasAudited machine old.input.bytes new.input.bytes old.output.bytes new.output.bytes ended
  pub cause : HasCause ended new.input.failed new.input.calls new.output.failed
  pub status : answer ≡ status_of ended
  pub reported : IsReportedOf ended old.errors.bytes new.errors.bytes new.errors.failed

-- the text that `report` gives for rows, with the cycle at a timestamp, was written
pub record HasReportedCycle (report : Rows → List ℕ) (machine : Machine) (old new : Streams) (answer : ℕ) : Type 0 where
  pub ended : Result (Unit {0}) RunFault
  pub rows : HasReportedOfRows report machine old.input.bytes new.input.bytes old.output.bytes new.output.bytes ended
  pub cause : HasCause ended new.input.failed new.input.calls new.output.failed
  pub status : answer ≡ status_of ended
  pub reported : IsReportedOf ended old.errors.bytes new.errors.bytes new.errors.failed

-- the message if the arguments ask for several explanations
abbrev pub several_line : List ℕ
several_line = codes "drf: explain takes one of --client, --agent and --summary at a time" ++ 10 ∷ []

-- nothing was read or written, because the arguments ask for several explanations
pub record HasAskedSeveral (old new : Streams) (answer : ℕ) : Type 0 where
  pub input : new.input ≡ old.input
  pub output : new.output ≡ old.output
  pub status : answer ≡ 2
  pub reported : IsReported several_line old.errors.bytes new.errors.bytes new.errors.failed

-- `drf explain`: the explanation of the cycle at a timestamp was written
abbrev pub HasExplained : Machine → ℕ → Scope → Streams → Streams → ℕ → Type 0
HasExplained machine at Short old new answer = HasReportedCycle (cycle_text at) machine old new answer
HasExplained machine at (Each whom) old new answer = HasReportedCycle (asked_text whom at) machine old new answer
HasExplained machine at Summary old new answer = HasReportedCycle (summed_text at) machine old new answer
HasExplained machine at Several old new answer = HasAskedSeveral old new answer

-- `drf save`: the state was saved, with `epoch` without offers and with counts restarted
pub record HasSaved (machine : Machine) (epoch : Bool) (old new : Streams) (answer : ℕ) : Type 0 where
  pub ended : Result (Unit {0}) RunFault
  pub saved : HasSavedState machine epoch old.input.bytes new.input.bytes old.output.bytes new.output.bytes ended
  pub cause : HasCause ended new.input.failed new.input.calls new.output.failed
  pub status : answer ≡ status_of ended
  pub reported : IsReportedOf ended old.errors.bytes new.errors.bytes new.errors.failed

abbrev pub form_of : Bool → Form
form_of true = Json
form_of false = Aligned

-- `drf show`: the state was shown, as tables or as lines
pub record HasShown (machine : Machine) (json : Bool) (old new : Streams) (answer : ℕ) : Type 0 where
  pub ended : Result (Unit {0}) RunFault
  pub shown : HasShownRows (form_of json) machine old.input.bytes new.input.bytes old.output.bytes new.output.bytes ended
  pub cause : HasCause ended new.input.failed new.input.calls new.output.failed
  pub status : answer ≡ status_of ended
  pub reported : IsReportedOf ended old.errors.bytes new.errors.bytes new.errors.failed

-- `drf drive` for the files with these names, from this state
pub record HasDriven (start : Machine) (known : Known) (names : List (List ℕ)) (old new : Streams) (answer : ℕ) : Type 0 where
  pub ended : Result (Unit {0}) ScriptFault
  pub input : new.input ≡ old.input
  pub driven : HasDrivenFiles start known names old.output.bytes new.output.bytes ended
  pub cause : new.output.failed ≡ is_write_fault ended
  pub reported : HasReportedDrive names ended answer old.errors.bytes new.errors.bytes new.errors.failed

-- what a task does from this state
abbrev pub HasDoneFrom : Machine → Task → Streams → Streams → ℕ → Type 0
HasDoneFrom machine (Run echo ask) old new answer = HasRun machine echo ask old new answer
HasDoneFrom machine Check old new answer = HasChecked machine old new answer
HasDoneFrom machine Audit old new answer = HasAudit machine old new answer
HasDoneFrom machine (Explain at scope) old new answer = HasExplained machine at scope old new answer
HasDoneFrom machine (Save epoch) old new answer = HasSaved machine epoch old new answer
HasDoneFrom machine (Show json) old new answer = HasShown machine json old new answer
HasDoneFrom machine (Lint write) old new answer = IsLinted write old new answer

-- what a request does, given what is known of files: it could not start, or its task was done from the state that it starts from
abbrev pub HasDone : Known → Request → Streams → Streams → ℕ → Type 0
HasDone known request old new answer =
    HasNotStarted known (option_map (λ name. name.now) request.from) old new answer
    ⊎ ((start : Machine) × IsStart known (option_map (λ name. name.now) request.from) start × HasDoneFrom start request.task old new answer)

-- the same for a drive
abbrev pub HasDoneDrive : Known → Drive → Streams → Streams → ℕ → Type 0
HasDoneDrive known drive old new answer =
    HasNotStarted known drive.from old new answer
    ⊎ ((start : Machine) × IsStart known drive.from start × HasDriven start known drive.files old new answer)

-- what the arguments ask for was done, or they were refused
pub data HasObeyed (known : Known) (words : List (List ℕ)) (old new : Streams) (answer : ℕ) : Type 0 where
  done : (request : Request) → Asks words request → HasDone known request old new answer → HasObeyed known words old new answer
  driven : (asks : AsksDrive words) → HasDoneDrive known (drive_of asks.rows) old new answer → HasObeyed known words old new answer
  refused : (error : Error) → IsRefused words error → HasRefused (kind_of error) old new answer → HasObeyed known words old new answer

-- nothing was read or written
abbrev pub AreSame : Streams → Streams → Type 0
AreSame old new = new ≡ old

-- the arguments ask for a drive, and nothing was done yet
pub record IsLeft (words : List (List ℕ)) (old new : Streams) : Type 0 where
  pub asks : AsksDrive words
  pub same : AreSame old new
