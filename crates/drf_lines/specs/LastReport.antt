-- The text of nodes, and the range of bytes of each node's text.
use Rattle.std.specs.Prelude.{◌≡◌, ℕ, ◌-◌, ◌≤◌, List, Some, length, take, drop, slice_get}
use Rattle.serde_json.specs.Written.{compact_text}
use Rattle.drf_rows.specs.declared.report.NodeLine.{NodeLine}
use Rattle.drf_lines.specs.declared.last_report.Span.{Span}
use Rattle.drf_lines.specs.ReportLine.{node_value}

-- the text of the node is in this range
pub record IsTextOf (text : List ℕ) (span : Span) (node : NodeLine) : Type 0 where
  pub forward : span.start ≤ span.end
  pub within : span.end ≤ length text
  pub same : take (span.end - span.start) (drop span.start text) ≡ compact_text (node_value node)

-- each span is the range of the text of the node with the same index
abbrev pub AreTexts : List ℕ → List Span → List NodeLine → Type 0
AreTexts text spans nodes =
    (i : ℕ) (span : Span) (node : NodeLine) → slice_get spans i ≡ Some span → slice_get nodes i ≡ Some node → IsTextOf text span node
