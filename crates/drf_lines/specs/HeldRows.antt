-- The rows of what a client has on an agent: offers, tasks and filters. They are read and written like those of agents.
use Rattle.std.specs.Prelude.{ℕ, List, Result, Ok, codes}
use Rattle.serde_json.specs.Data.{Data, number, unsigned, string, object, member, no_members}
use Rattle.drf_role.specs.Parts.{text_of}
use Rattle.drf_role.specs.Path.{Path}
use Rattle.drf_role.specs.Text.{Text}
use Rattle.drf_rows.specs.declared.rows.OfferRow.{OfferRow}
use Rattle.drf_rows.specs.declared.rows.TaskRow.{TaskRow}
use Rattle.drf_rows.specs.declared.rows.FilterRow.{FilterRow}
use Rattle.drf_text.specs.Written.{bundle_text}
use Rattle.drf_lines.specs.declared.fault.LineFault.{LineFault}
use Rattle.drf_lines.specs.Fault.{◌>>=◌}
use Rattle.drf_lines.specs.Object.{keys, text_at, number_at}
use Rattle.drf_lines.specs.Words.{name_in, role_in}
use Rattle.drf_lines.specs.Resources.{bundle_in}

-- ---- the owner of a row: agent, framework and role

abbrev pub OwnerText : Type 0
OwnerText = List ℕ × List ℕ × List ℕ

unfoldable pub owner_text : Data → Result OwnerText LineFault
owner_text value =
    text_at (codes "agent") value >>= λ agent. text_at (codes "framework") value >>= λ framework.
    text_at (codes "role") value >>= λ role. Ok (agent, framework, role)

unfoldable pub owner_in : OwnerText → Result (Text × Text × Path) LineFault
owner_in text =
    name_in text.0 >>= λ agent. name_in text.1 >>= λ framework. role_in text.2 >>= λ role. Ok (agent, framework, role)

-- ---- offers

unfoldable pub offer_row : Data → Result OfferRow LineFault
offer_row value =
    keys 6 value >>= λ _. owner_text value >>= λ owner. number_at (codes "offer") value >>= λ offer.
    text_at (codes "resources") value >>= λ resources.
    owner_in owner >>= λ owner. bundle_in resources >>= λ bundle.
    Ok (record { number = offer; agent = owner.0; framework = owner.1; role = owner.2; bundle = bundle })

abbrev pub offer_row_value : OfferRow → Data
offer_row_value o = object (
    member (codes "agent") (string o.agent)
    (member (codes "framework") (string o.framework)
    (member (codes "offer") (number (unsigned o.number))
    (member (codes "resources") (string (bundle_text o.bundle))
    (member (codes "role") (string (text_of o.role))
    (member (codes "row") (string (codes "offer"))
    no_members))))))

-- ---- tasks

unfoldable pub task_row : Data → Result TaskRow LineFault
task_row value =
    keys 6 value >>= λ _. owner_text value >>= λ owner. text_at (codes "task") value >>= λ task.
    text_at (codes "use") value >>= λ used.
    owner_in owner >>= λ owner. name_in task >>= λ task. bundle_in used >>= λ used.
    Ok (record { name = task; agent = owner.0; framework = owner.1; role = owner.2; bundle = used })

abbrev pub task_row_value : TaskRow → Data
task_row_value t = object (
    member (codes "agent") (string t.agent)
    (member (codes "framework") (string t.framework)
    (member (codes "role") (string (text_of t.role))
    (member (codes "row") (string (codes "task"))
    (member (codes "task") (string t.name)
    (member (codes "use") (string (bundle_text t.bundle))
    no_members))))))

-- ---- filters

unfoldable pub filter_row : Data → Result FilterRow LineFault
filter_row value =
    keys 6 value >>= λ _. owner_text value >>= λ owner. text_at (codes "resources") value >>= λ resources.
    number_at (codes "until") value >>= λ until.
    owner_in owner >>= λ owner. bundle_in resources >>= λ bundle.
    Ok (record { framework = owner.1; role = owner.2; agent = owner.0; bundle = bundle; until = until })

abbrev pub filter_row_value : FilterRow → Data
filter_row_value f = object (
    member (codes "agent") (string f.agent)
    (member (codes "framework") (string f.framework)
    (member (codes "resources") (string (bundle_text f.bundle))
    (member (codes "role") (string (text_of f.role))
    (member (codes "row") (string (codes "filter"))
    (member (codes "until") (number (unsigned f.until))
    no_members))))))
