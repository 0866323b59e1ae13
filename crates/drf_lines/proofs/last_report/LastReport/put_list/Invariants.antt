use Rattle.std.proofs.Common.{◌≡◌, ◌++◌, length, map, drop}
use Rattle.serde_json.specs.Data.{array}
use Rattle.serde_json.specs.View.{items_of}
use Rattle.serde_json.specs.Written.{compact_text}
use Rattle.drf_lines.specs.LastReport.{AreTexts}
use Rattle.drf_lines.specs.ReportLine.{node_value}
use Rattle.drf_lines.proofs.ReplyTexts.{left_text}
use Rattle.drf_lines.proofs.last_report.LastReport.put_list.Given as goal

-- the text so far, followed by that of the remaining nodes, is the whole text, and each span so far is the range of its
-- node's text
abbrev pub invariant-loop-i : goal.invariant-loop-i
invariant-loop-i l = record {
  reported : l.text.items ++ left_text node_value l.i (drop l.i l.nodes) ≡ l.fn.text.items ++ compact_text (array (items_of (map node_value l.nodes)));
  count : length l.spans.items ≡ l.i;
  lies : AreTexts l.text.items l.spans.items l.nodes;
}
