-- The event `set_weight`, read and written like those of agents.
use Rattle.std.specs.Prelude.{ℕ, Result, Ok, codes}
use Rattle.serde_json.specs.Data.{Data, string, object, member, no_members}
use Rattle.drf_role.specs.Parts.{text_of}
use Rattle.drf_role.specs.Path.{Path}
use Rattle.drf_text.specs.Written.{amount_text}
use Rattle.drf_lines.specs.declared.fault.LineFault.{LineFault}
use Rattle.drf_lines.specs.Fault.{◌>>=◌}
use Rattle.drf_lines.specs.Object.{keys, text_at}
use Rattle.drf_lines.specs.Words.{role_in}
use Rattle.drf_lines.specs.Resources.{weight_in}

-- the role and the weight of an event, or of a row, that has no other keys but `event` or `row`
unfoldable pub its_weight : Data → Result (Path × ℕ) LineFault
its_weight value =
    keys 3 value >>= λ _. text_at (codes "role") value >>= λ role. text_at (codes "weight") value >>= λ weight.
    role_in role >>= λ role. weight_in weight >>= λ weight. Ok (role, weight)

abbrev pub weight_value : Path → ℕ → Data
weight_value role weight = object (
    member (codes "event") (string (codes "set_weight"))
    (member (codes "role") (string (text_of role))
    (member (codes "weight") (string (amount_text weight))
    no_members)))
