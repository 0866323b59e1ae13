-- The rows of weights and limits, read and written like those of agents.
use Rattle.std.specs.Prelude.{codes}
use Rattle.serde_json.specs.Data.{Data, string, object, member, no_members}
use Rattle.drf_role.specs.Parts.{text_of}
use Rattle.drf_rows.specs.declared.rows.WeightRow.{WeightRow}
use Rattle.drf_rows.specs.declared.rows.LimitRow.{LimitRow}
use Rattle.drf_text.specs.Written.{amount_text, quantities_text}

abbrev pub weight_row_value : WeightRow → Data
weight_row_value w = object (
    member (codes "role") (string (text_of w.role))
    (member (codes "row") (string (codes "weight"))
    (member (codes "weight") (string (amount_text w.weight))
    no_members)))

abbrev pub limit_row_value : LimitRow → Data
limit_row_value l = object (
    member (codes "limit") (string (quantities_text l.limit))
    (member (codes "role") (string (text_of l.role))
    (member (codes "row") (string (codes "limit"))
    no_members)))
