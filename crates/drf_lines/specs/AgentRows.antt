-- The rows of agents in a saved state. They are read in the same steps as events, with `row` instead of `event`, and
-- written with their keys in byte order.
use Rattle.std.specs.Prelude.{Result, Ok, codes}
use Rattle.serde_json.specs.Data.{Data, boolean, string, object, member, no_members}
use Rattle.drf_rows.specs.declared.rows.AgentRow.{AgentRow}
use Rattle.drf_text.specs.Written.{bundle_text}
use Rattle.drf_lines.specs.declared.fault.LineFault.{LineFault}
use Rattle.drf_lines.specs.Fault.{◌>>=◌}
use Rattle.drf_lines.specs.Object.{keys, text_at, boolean_at}
use Rattle.drf_lines.specs.Words.{name_in}
use Rattle.drf_lines.specs.Resources.{bundle_in}

unfoldable pub agent_row : Data → Result AgentRow LineFault
agent_row value =
    keys 4 value >>= λ _. boolean_at (codes "active") value >>= λ active.
    text_at (codes "agent") value >>= λ agent. text_at (codes "total") value >>= λ total.
    name_in agent >>= λ agent. bundle_in total >>= λ total. Ok (record { name = agent; total = total; active = active })

abbrev pub agent_row_value : AgentRow → Data
agent_row_value a = object (
    member (codes "active") (boolean a.active)
    (member (codes "agent") (string a.name)
    (member (codes "row") (string (codes "agent"))
    (member (codes "total") (string (bundle_text a.total))
    no_members))))
