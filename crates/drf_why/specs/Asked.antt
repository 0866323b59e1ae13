-- The explanation of the next cycle for one agent, for one client, or for all of them.
use Rattle.std.specs.Prelude.{ℕ, Bool, ◌&&◌, List, [], ◌∷◌, ◌++◌, Option, Some, None, if◌then◌else◌, codes}
use Rattle.std.specs.List.{list_any}
use Rattle.std.specs.Option.{option_map_or}
use Rattle.serde_json.specs.Data.{Data, string, object, member, no_members}
use Rattle.serde_json.specs.Written.{compact_text}
use Rattle.drf_role.specs.Text.{Text, same_text}
use Rattle.drf_role.specs.Path.{same_path}
use Rattle.drf_role.specs.Parts.{parts_of}
use Rattle.drf_rows.specs.Client.{Client, path_of}
use Rattle.drf_rows.specs.Members.{has_agent, has_framework}
use Rattle.drf_rows.specs.declared.rows.FrameworkRow.{FrameworkRow}
use Rattle.drf_rows.specs.declared.rows.Rows.{Rows}
use Rattle.drf_explain.specs.ExplainedText.{explained_text}
use Rattle.drf_why.specs.Pick.{picked_of}
use Rattle.drf_why.specs.Tally.{summary_text}
use Rattle.drf_why.specs.declared.pick.Pick.{Pick}
use Rattle.drf_why.specs.declared.pick.Pick.TheVariants as pick
use Rattle.drf_why.specs.declared.whom.Whom.{Whom}
use Rattle.drf_why.specs.declared.whom.Whom.TheVariants as whom

-- ---- the subject

-- the client of a framework in a role, given their texts
abbrev pub client_named : Text → Text → Client
client_named framework role = record { role = parts_of role; framework = framework }

-- the framework has this name, and is registered in this role
abbrev pub has_client : Text → Text → FrameworkRow → Bool
has_client framework role f = same_text f.name framework && list_any (λ c. same_path c.role (parts_of role)) f.clients

-- the selection of a subject, if it is registered
abbrev pub pick_of : Rows → Whom → Option Pick
pick_of rows whom.All = Some pick.All
pick_of rows (whom.Agent name) = if has_agent rows name.now then Some (pick.Agent name.now) else None
pick_of rows (whom.Client framework role) =
    if list_any (has_client framework.now role.now) rows.frameworks
    then Some (pick.Client (path_of (client_named framework.now role.now))) else None

-- ---- a subject that is not registered

abbrev pub no_agent_value : Text → Data
no_agent_value agent = object (
    member (codes "agent") (string agent)
    (member (codes "why") (string (codes "UnknownAgent"))
    no_members))

-- the framework is not registered, or not in this role
abbrev pub why_no_client : Rows → Text → Text
why_no_client rows framework = if has_framework rows framework then codes "NotInRole" else codes "UnknownFramework"

abbrev pub no_client_value : Text → Text → Text → Data
no_client_value framework role why = object (
    member (codes "framework") (string framework)
    (member (codes "role") (string role)
    (member (codes "why") (string why)
    no_members)))

-- the line that says so: compact JSON, with keys in byte order
abbrev pub absent_text : Rows → Whom → List ℕ
absent_text rows whom.All = []
absent_text rows (whom.Agent name) = compact_text (no_agent_value name.now) ++ 10 ∷ []
absent_text rows (whom.Client framework role) =
    compact_text (no_client_value framework.now role.now (why_no_client rows framework.now)) ++ 10 ∷ []

-- ---- the text

-- of the cycle at a timestamp in these rows: the selected findings, or why there are none
unfoldable pub asked_text : Whom → ℕ → Rows → List ℕ
asked_text asked at rows = option_map_or (λ pick. explained_text (picked_of pick rows at)) (pick_of rows asked) (absent_text rows asked)

-- the summary of the cycle
unfoldable pub summed_text : ℕ → Rows → List ℕ
summed_text at rows = summary_text rows at
