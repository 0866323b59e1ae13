-- A report as JSON, with its keys in byte order.
use Rattle.std.specs.Prelude.{ℕ, List, ◌∷◌, ◌++◌, map, codes, decimal}
use Rattle.serde_json.specs.Data.{Data, number, unsigned, string, array, object, member, no_members}
use Rattle.serde_json.specs.View.{items_of}
use Rattle.drf_role.specs.Text.{Text}
use Rattle.drf_role.specs.Parts.{text_of}
use Rattle.drf_bundle.specs.Quantities.{without_zeros}
use Rattle.drf_bundle.specs.declared.quantities.Entry.{Entry}
use Rattle.drf_rows.specs.declared.report.NodeLine.{NodeLine}
use Rattle.drf_rows.specs.declared.report.Report.{Report}
use Rattle.drf_text.specs.Written.{quantities_text}

-- the two numbers of a fraction, joined by `/`
abbrev pub fraction_text : ℕ × ℕ → Text
fraction_text fraction = decimal fraction.0 ++ 47 ∷ decimal fraction.1

-- the quantities above 0
abbrev pub amounts_text : List Entry → Text
amounts_text quantities = quantities_text (without_zeros quantities)

abbrev pub node_value : NodeLine → Data
node_value node = object (
    member (codes "count") (number (unsigned node.count))
    (member (codes "held") (string (amounts_text node.held))
    (member (codes "path") (string (text_of node.path))
    (member (codes "share") (string (fraction_text node.share))
    (member (codes "weighted") (string (fraction_text node.weighted))
    no_members)))))

abbrev pub report_value : Report → Data
report_value report = object (
    member (codes "nodes") (array (items_of (map node_value report.nodes)))
    (member (codes "total") (string (amounts_text report.total))
    no_members))
