-- The lines of a state, without their line feeds: compact JSON with keys in byte order (RFC 8259).
use Rattle.std.specs.Prelude.{ℕ, List, codes}
use Rattle.serde_json.specs.Data.{Data, number, unsigned, string, object, member, no_members}
use Rattle.serde_json.specs.Written.{compact_text}
use Rattle.drf_saved.specs.declared.saved.Head.{Head}
use Rattle.drf_saved.specs.declared.saved.SavedRow.{SavedRow}
use Rattle.drf_saved.specs.declared.saved.SavedRow.TheVariants.{Agent, Framework, Weight, Limit, Offer, Task, Filter}
use Rattle.drf_lines.specs.AgentRows.{agent_row_value}
use Rattle.drf_lines.specs.FrameworkRows.{framework_row_value}
use Rattle.drf_lines.specs.HeldRows.{offer_row_value, task_row_value, filter_row_value}
use Rattle.drf_lines.specs.RoleRows.{weight_row_value, limit_row_value}

abbrev pub head_value : Head → Data
head_value head = object (
    member (codes "clock") (number (unsigned head.clock))
    (member (codes "events") (number (unsigned head.events))
    (member (codes "next_offer") (number (unsigned head.next_offer))
    (member (codes "row") (string (codes "state"))
    no_members))))

-- a row as JSON
abbrev pub row_value : SavedRow → Data
row_value (Agent a) = agent_row_value a
row_value (Framework f) = framework_row_value f
row_value (Weight w) = weight_row_value w
row_value (Limit l) = limit_row_value l
row_value (Offer o) = offer_row_value o
row_value (Task t) = task_row_value t
row_value (Filter f) = filter_row_value f

-- the end: the number of lines before it, and the digest of their bytes
abbrev pub end_value : ℕ → List ℕ → Data
end_value rows digest = object (
    member (codes "row") (string (codes "end"))
    (member (codes "rows") (number (unsigned rows))
    (member (codes "sha256") (string digest)
    no_members)))

-- the first line
unfoldable pub head_line : Head → List ℕ
head_line head = compact_text (head_value head)

-- the line of a row
unfoldable pub row_line : SavedRow → List ℕ
row_line row = compact_text (row_value row)

-- the last line
unfoldable pub end_line : ℕ → List ℕ → List ℕ
end_line rows digest = compact_text (end_value rows digest)
