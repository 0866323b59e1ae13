-- The weighted shares of a report by the texts of nodes, as the code stores them.
use Rattle.std.specs.Prelude.{◌≡◌, List, Option, find, string_bytes}
use Rattle.std.specs.HashMap.{HashMap, get_by_text}
use Rattle.std.specs.declared.string.String.{String}
use Rattle.std.specs.Option.{option_map}
use Rattle.drf_lines.specs.ReportLine.{fraction_text}
use Rattle.drf_role.specs.Text.{Text, same_text}
use Rattle.drf_role.specs.Parts.{text_of}
use Rattle.drf_rows.specs.declared.report.NodeLine.{NodeLine}
use Rattle.drf_why.specs.declared.shares.Shares.{Shares}

-- the stored share of a node, by its text
abbrev pub share_at : {Y Z S : Type 0} → HashMap (String Y) (String Z) S → Text → Option Text
share_at by_node node = option_map string_bytes (get_by_text by_node node)

-- the share in the first line of a node
abbrev pub reported_share : List NodeLine → Text → Option Text
reported_share lines node = option_map (λ line. fraction_text line.weighted) (find (λ line. same_text (text_of line.path) node) lines)

-- each stored share is the one in the report's first line of the node
abbrev pub AreSharesIn : Shares → Type 0
AreSharesIn s = (node : Text) → share_at s.by_node node ≡ reported_share s.report.now.nodes node
