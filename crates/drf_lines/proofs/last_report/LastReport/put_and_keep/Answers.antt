use Rattle.std.proofs.Common.{List, subst, sym, ◌∙◌}
use Rattle.drf_rows.specs.declared.report.NodeLine.{NodeLine}
use Rattle.drf_lines.specs.LastReport.{AreTexts}
use Rattle.drf_lines.proofs.last_report.LastReport.put_and_keep.Goals as goal

pub invariant_of-keep : goal.invariant_of-keep
invariant_of-keep c = record {
  are_texts = subst (λ (nodes : List NodeLine). AreTexts c.put_list.new.text.items c.put_list.new.spans.items nodes)
      (c.as_slice.ensures ∙ sym c.in_ok-nodes.ensures) c.in_ok-put_list.ensures.texts;
}
