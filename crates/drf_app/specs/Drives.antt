-- What `drf drive` reports, and its exit status.
use Rattle.std.specs.Prelude.{◌≡◌, ℕ, Bool, false, List, [], ◌∷◌, ◌++◌, Option, Result, Ok, Err, codes, slice_get, unwrap_or}
use Rattle.drf_drive.specs.declared.script.BadLine.{BadLine}
use Rattle.drf_drive.specs.declared.script.ScriptFault.{ScriptFault}
use Rattle.drf_drive.specs.declared.script.ScriptFault.TheVariants.{Run, Unread, Line, Close}
use Rattle.drf_lines.specs.Fault.{fault_name, fault_number}
use Rattle.drf_app.specs.Reported.{HasReportedLine, HasReportedUnread, IsReported, fault_line, refused_line}

-- the name of the file at this index
abbrev pub name_at : List (List ℕ) → ℕ → List ℕ
name_at names file = unwrap_or (slice_get names file) []

-- the message about a line that is not an event
abbrev pub bad_line : List (List ℕ) → BadLine → List ℕ
bad_line names bad = refused_line (name_at names bad.file) bad.line (fault_number bad.fault) (fault_name bad.fault)

abbrev pub close_line : List ℕ
close_line = codes "drf: close fault" ++ 10 ∷ []

-- the message and the exit status for the end of a drive
abbrev pub HasReportedDrive : List (List ℕ) → Result (Unit {0}) ScriptFault → ℕ → Option (List ℕ) → Option (List ℕ) → Bool → Type 0
HasReportedDrive names (Ok done) answer old new failed = (answer ≡ 0) × ((new ≡ old) × (failed ≡ false))
HasReportedDrive names (Err (Unread file)) answer old new failed = HasReportedUnread (name_at names file) answer old new failed
HasReportedDrive names (Err (Run fault)) answer old new failed = (answer ≡ 1) × IsReported (fault_line fault) old new failed
HasReportedDrive names (Err (Close misfit)) answer old new failed = (answer ≡ 1) × IsReported close_line old new failed
HasReportedDrive names (Err (Line bad)) answer old new failed = HasReportedLine (bad_line names bad) answer old new failed
