-- The rows of frameworks with their clients, read and written like those of agents.
use Rattle.std.specs.Prelude.{◌≡◌, ℕ, ◌<◌, ◌^◌, Bool, List, map, Result, Ok, codes}
use Rattle.serde_json.specs.Data.{Data, boolean, number, unsigned, string, array, object, member, no_members}
use Rattle.serde_json.specs.View.{items_of}
use Rattle.drf_role.specs.Parts.{text_of}
use Rattle.drf_rows.specs.declared.rows.ClientRow.{ClientRow}
use Rattle.drf_rows.specs.declared.rows.FrameworkRow.{FrameworkRow}
use Rattle.drf_lines.specs.declared.fault.LineFault.{LineFault}
use Rattle.drf_lines.specs.Fault.{◌>>=◌}
use Rattle.drf_lines.specs.Object.{keys, text_at, number_at, boolean_at}
use Rattle.drf_lines.specs.TaskTexts.{each_in, values_at}
use Rattle.drf_lines.specs.Words.{name_in, role_in}
use Rattle.drf_lines.specs.Written.{IsText}

-- a client in a line: the text of its role, its count, and whether it is suppressed
abbrev pub ClientText : Type 0
ClientText = List ℕ × ℕ × Bool

-- ---- the texts in the line

-- a client from an object that has only the three keys
unfoldable pub client_text : Data → Result ClientText LineFault
client_text value =
    keys 3 value >>= λ _. number_at (codes "count") value >>= λ count. text_at (codes "role") value >>= λ role.
    boolean_at (codes "suppressed") value >>= λ suppressed. Ok (role, count, suppressed)

-- ---- the meaning of the texts

unfoldable pub client_in : ClientText → Result ClientRow LineFault
client_in text = role_in text.0 >>= λ role. Ok (record { role = role; count = text.1; suppressed = text.2 })

unfoldable pub framework_row : Data → Result FrameworkRow LineFault
framework_row value =
    keys 3 value >>= λ _. values_at (codes "clients") value >>= λ clients. each_in client_text clients >>= λ clients.
    text_at (codes "framework") value >>= λ framework.
    name_in framework >>= λ framework. each_in client_in clients >>= λ clients.
    Ok (record { name = framework; clients = clients })

-- ---- the written form

abbrev pub client_value : ClientRow → Data
client_value c = object (
    member (codes "count") (number (unsigned c.count))
    (member (codes "role") (string (text_of c.role))
    (member (codes "suppressed") (boolean c.suppressed)
    no_members)))

abbrev pub framework_row_value : FrameworkRow → Data
framework_row_value f = object (
    member (codes "clients") (array (items_of (map client_value f.clients)))
    (member (codes "framework") (string f.name)
    (member (codes "row") (string (codes "framework"))
    no_members)))

-- the written form of a client can be read: its role gives the same role, is UTF-8, and its count is below 2^64
pub record IsClientRead (c : ClientRow) : Type 0 where
  pub role : role_in (text_of c.role) ≡ Ok c.role
  pub text : IsText (text_of c.role)
  pub small : c.count < 2 ^ 64
