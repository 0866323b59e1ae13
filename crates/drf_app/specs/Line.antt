-- The form of the command line, and what its arguments ask for.
use Rattle.std.specs.Prelude.{◌≡◌, ◌≤◌, ⊤, ℕ, Bool, true, false, List, [], ◌∷◌, Option, Some, None, codes, option_map, take, unwrap_or, if◌then◌else◌}
use Rattle.std.specs.Str.Parse.{IsNumeral, digits_value, without_leading_plus}
use Rattle.clap.specs.Words.{App, Row, Rule, Text, HasKind, all_of, fault_of, first_of, new_app, new_rule, one_of, subcommand_of, with_rule, with_subcommand}
use Rattle.clap.specs.declared.builder.action.ArgAction.TheVariants.{Append, Set}
use Rattle.clap.specs.declared.builder.value_parser.ValueParser.TheVariants.{Unsigned}
use Rattle.clap.specs.declared.error.Error.{Error}
use Rattle.drf_rows.specs.declared.limits.TheConstants.{LATEST_TIMESTAMP}
use Rattle.drf_app.specs.Arguments.{HasFlag, IsNameOf, flag, top_line}
use Rattle.drf_app.specs.declared.request.Request.{Request}
use Rattle.drf_why.specs.declared.whom.Whom.{Whom}
use Rattle.drf_why.specs.declared.whom.Whom.TheVariants as whom
use Rattle.drf_app.specs.declared.request.Scope.{Scope}
use Rattle.drf_app.specs.declared.request.Scope.TheVariants.{Short, Each, Summary, Several}
use Rattle.drf_app.specs.declared.request.Task.{Task}
use Rattle.drf_app.specs.declared.request.Task.TheVariants.{Run, Check, Audit, Explain, Save, Show, Lint}

-- ---- the form

-- `--from STATE`, which each command but `lint` has
abbrev pub from_option : Rule
from_option = record (new_rule (codes "from")) { long = Some (codes "from"); value_names = 1; action = Some Set }

abbrev pub timestamp_option : Rule
timestamp_option = record (new_rule (codes "at")) { long = Some (codes "at"); action = Some Set; parser = Some (Unsigned 0 LATEST_TIMESTAMP) }

-- `run [--echo] [--ask]`
abbrev pub run_line : App
run_line = with_rule (with_rule (with_rule (new_app (codes "run")) (flag (codes "echo"))) (flag (codes "ask"))) from_option

-- `check`
abbrev pub check_line : App
check_line = with_rule (new_app (codes "check")) from_option

-- `audit`
abbrev pub audit_line : App
audit_line = with_rule (new_app (codes "audit")) from_option

-- `--client FRAMEWORK ROLE`
abbrev pub client_option : Rule
client_option = record (new_rule (codes "client")) { long = Some (codes "client"); value_names = 2; action = Some Set }

-- `--agent NAME`
abbrev pub agent_option : Rule
agent_option = record (new_rule (codes "agent")) { long = Some (codes "agent"); value_names = 1; action = Some Set }

-- `explain [--at TIMESTAMP] [--each] [--client FRAMEWORK ROLE] [--agent NAME] [--summary]`
abbrev pub explain_line : App
explain_line =
    with_rule (with_rule (with_rule (with_rule (with_rule (with_rule (new_app (codes "explain")) timestamp_option) (flag (codes "each"))) client_option)
    agent_option) (flag (codes "summary"))) from_option

-- `save [--epoch]`
abbrev pub save_line : App
save_line = with_rule (with_rule (new_app (codes "save")) (flag (codes "epoch"))) from_option

-- `show [--json]`
abbrev pub show_line : App
show_line = with_rule (with_rule (new_app (codes "show")) (flag (codes "json"))) from_option

-- `lint [--write]`
abbrev pub lint_line : App
lint_line = with_rule (new_app (codes "lint")) (flag (codes "write"))

-- 1 to 64 files
abbrev pub file_arguments : Rule
file_arguments = record (new_rule (codes "FILE")) {
  required = true;
  range = Some (record { start_inclusive = 1; end_inclusive = 64 });
  action = Some Append;
}

-- `drive FILE..`
abbrev pub drive_line : App
drive_line = with_rule (with_rule (new_app (codes "drive")) from_option) file_arguments

-- the command line of `drf`
abbrev pub drf_line : App
drf_line =
    with_subcommand (with_subcommand (with_subcommand (with_subcommand (with_subcommand (with_subcommand (with_subcommand (with_subcommand top_line
    run_line.top) check_line.top) audit_line.top) show_line.top) explain_line.top) save_line.top) lint_line.top) drive_line.top

-- ---- what the arguments of a command say

-- the timestamp of `--at`: 0 without it; otherwise the number in its digits, if it is at most the latest timestamp, as it is for right arguments
pub record SaysTimestamp (rows : List Row) (at : ℕ) : Type 0 where
  pub unsaid : one_of (codes "at") rows ≡ None → at ≡ 0
  pub said : (text : Text) → one_of (codes "at") rows ≡ Some text → IsNumeral 10 (without_leading_plus text)
      → digits_value 10 (without_leading_plus text) ≤ LATEST_TIMESTAMP → at ≡ digits_value 10 (without_leading_plus text)
  pub early : at ≤ LATEST_TIMESTAMP

-- what `explain` is asked for
pub data Asked : Type 0 where
  short : Asked
  all : Asked
  agent : Text → Asked
  client : Text → Text → Asked
  sums : Asked
  several : Asked

abbrev pub asked_of : Whom → Asked
asked_of whom.All = all
asked_of (whom.Agent name) = agent name.now
asked_of (whom.Client framework role) = client framework.now role.now

abbrev pub asked_for : Scope → Asked
asked_for Short = short
asked_for (Each whom) = asked_of whom
asked_for Summary = sums
asked_for Several = several

abbrev pub asked_of_client : List Text → Asked
asked_of_client [] = several
asked_of_client (framework ∷ []) = several
asked_of_client (framework ∷ role ∷ []) = client framework role
asked_of_client (framework ∷ role ∷ more ∷ others) = several

-- what `--each`, `--summary`, `--agent` and `--client` ask for; only one of the last three may be given
abbrev pub asked_by : Bool → Bool → Option Text → Option (List Text) → Asked
asked_by each false None None = if each then all else short
asked_by each true None None = sums
asked_by each false (Some name) None = agent name
asked_by each true (Some name) None = several
asked_by each false None (Some texts) = asked_of_client texts
asked_by each true None (Some texts) = several
asked_by each summary (Some name) (Some texts) = several

-- the scope that the arguments of `explain` ask for
pub record SaysScope (rows : List Row) (scope : Scope) : Type 0 where
  pub each : Bool
  pub summary : Bool
  pub is_each : HasFlag rows (codes "each") each
  pub is_summary : HasFlag rows (codes "summary") summary
  pub asked : asked_for scope ≡ asked_by each summary (first_of (codes "agent") rows) (all_of (codes "client") rows)

-- the name of the command for a task
abbrev pub name_of : Task → Text
name_of (Run echo ask) = codes "run"
name_of Check = codes "check"
name_of Audit = codes "audit"
name_of (Explain at scope) = codes "explain"
name_of (Save epoch) = codes "save"
name_of (Show json) = codes "show"
name_of (Lint write) = codes "lint"

-- there is a command with this name
abbrev pub IsCommand : Text → Type 0
IsCommand name = IsNameOf drf_line.subs name

-- the arguments of a command say what the task has
abbrev pub SaysTask : List Row → Task → Type 0
SaysTask rows (Run echo ask) = HasFlag rows (codes "echo") echo × HasFlag rows (codes "ask") ask
SaysTask rows Check = ⊤
SaysTask rows Audit = ⊤
SaysTask rows (Explain at scope) = SaysTimestamp rows at × SaysScope rows scope
SaysTask rows (Save epoch) = HasFlag rows (codes "epoch") epoch
SaysTask rows (Show json) = HasFlag rows (codes "json") json
SaysTask rows (Lint write) = HasFlag rows (codes "write") write

-- so they do for the request, with the file of `--from`, if there is one
pub record SaysRequest (rows : List Row) (request : Request) : Type 0 where
  pub task : SaysTask rows request.task
  pub from : option_map (λ name. name.now) request.from ≡ first_of (codes "from") rows

-- the timestamp of a task, if it has one, is at most the latest timestamp
abbrev pub IsWithinBounds : Task → Type 0
IsWithinBounds (Run echo ask) = ⊤
IsWithinBounds Check = ⊤
IsWithinBounds Audit = ⊤
IsWithinBounds (Explain at scope) = at ≤ LATEST_TIMESTAMP
IsWithinBounds (Save epoch) = ⊤
IsWithinBounds (Show json) = ⊤
IsWithinBounds (Lint write) = ⊤

-- the arguments of a drive: the first 64 of its files (right arguments have no more), and the file of `--from`, if there is one
pub record Drive : Type 0 where
  pub files : List Text
  pub from : Option Text

abbrev pub drive_of : List Row → Drive
drive_of rows = record { files = take 64 (unwrap_or (all_of (codes "FILE") rows) []); from = first_of (codes "from") rows }

-- ---- what the arguments ask for

-- the arguments, of which the first is the program's name, name this command, and nothing is wrong with them
pub record Names (words : List Text) (name : Text) (rows : List Row) : Type 0 where
  pub right : fault_of drf_line words ≡ []
  pub entered : subcommand_of drf_line words ≡ Some (name, rows)

-- they ask for this request
pub record Asks (words : List Text) (request : Request) : Type 0 where
  pub rows : List Row
  pub names : Names words (name_of request.task) rows
  pub says : SaysRequest rows request

-- they ask for a drive
pub record AsksDrive (words : List Text) : Type 0 where
  pub rows : List Row
  pub names : Names words (codes "drive") rows

-- the arguments are refused because they are wrong or ask for help or the version, or memory ran out before they were read
abbrev pub IsRefused : List Text → Error → Type 0
IsRefused words error = HasKind (fault_of drf_line words) error
