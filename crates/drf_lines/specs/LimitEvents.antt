-- The event `set_limit`, read and written like those of agents.
use Rattle.std.specs.Prelude.{List, Result, Ok, codes}
use Rattle.serde_json.specs.Data.{Data, string, object, member, no_members}
use Rattle.drf_role.specs.Parts.{text_of}
use Rattle.drf_role.specs.Path.{Path}
use Rattle.drf_bundle.specs.declared.quantities.Entry.{Entry}
use Rattle.drf_text.specs.Written.{quantities_text}
use Rattle.drf_lines.specs.declared.fault.LineFault.{LineFault}
use Rattle.drf_lines.specs.Fault.{◌>>=◌}
use Rattle.drf_lines.specs.Object.{keys, text_at}
use Rattle.drf_lines.specs.Words.{role_in}
use Rattle.drf_lines.specs.Resources.{quantities_in}

-- the role and the limit of an event, or of a row, that has no other keys but `event` or `row`
unfoldable pub its_limit : Data → Result (Path × List Entry) LineFault
its_limit value =
    keys 3 value >>= λ _. text_at (codes "role") value >>= λ role. text_at (codes "limit") value >>= λ limit.
    role_in role >>= λ role. quantities_in limit >>= λ limit. Ok (role, limit)

abbrev pub limit_value : Path → List Entry → Data
limit_value role limit = object (
    member (codes "event") (string (codes "set_limit"))
    (member (codes "limit") (string (quantities_text limit))
    (member (codes "role") (string (text_of role))
    no_members)))
