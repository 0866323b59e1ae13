use Rattle.std.proofs.Common.{ℕ, List, length, take, drop, ap, ◌-◌, ◌∙◌, arith}
use Rattle.serde_json.specs.Written.{compact_text}
use Rattle.drf_rows.specs.declared.report.NodeLine.{NodeLine}
use Rattle.drf_lines.specs.ReportLine.{node_value}
use Rattle.drf_lines.proofs.KeptTexts.{text_there}
use Rattle.drf_lines.proofs.last_report.WrittenNodes.text_at.Goals as goal

pub slice_bounds-result-count : goal.slice_bounds-result-count
slice_bounds-result-count c =
    let its = c.in_ok-span.ensures.lookup in
    let rows = c.in_ok-kept.ensures.lookup in
    (text_there c.args.self.now.text.items _ _ _ _ c.args.place c.in_ok-span.span.now c.in_ok-kept.kept.now
    c.deref.ensures.value its.0 its.1 c.as_slice.ensures rows.0 rows.1 c.args.self.now.are_texts).forward

pub slice_bounds-result-start : goal.slice_bounds-result-start
slice_bounds-result-start c =
    let its = c.in_ok-span.ensures.lookup in
    let rows = c.in_ok-kept.ensures.lookup in
    let there = text_there c.args.self.now.text.items _ _ _ _ c.args.place c.in_ok-span.span.now c.in_ok-kept.kept.now
    c.deref.ensures.value its.0 its.1 c.as_slice.ensures rows.0 rows.1 c.args.self.now.are_texts in
    there.forward

pub slice_bounds-result-end : goal.slice_bounds-result-end
slice_bounds-result-end c =
    let its = c.in_ok-span.ensures.lookup in
    let rows = c.in_ok-kept.ensures.lookup in
    let there = text_there c.args.self.now.text.items _ _ _ _ c.args.place c.in_ok-span.span.now c.in_ok-kept.kept.now
    c.deref.ensures.value its.0 its.1 c.as_slice.ensures rows.0 rows.1 c.args.self.now.are_texts in
    omega (arith, there.within, ap (λ (bytes : List ℕ). length bytes) c.deref-2.ensures.value)

pub returns : goal.returns
returns c =
    let its = c.in_ok-span.ensures.lookup in
    let rows = c.in_ok-kept.ensures.lookup in
    let there = text_there c.args.self.now.text.items _ _ _ _ c.args.place c.in_ok-span.span.now c.in_ok-kept.kept.now
    c.deref.ensures.value its.0 its.1 c.as_slice.ensures rows.0 rows.1 c.args.self.now.are_texts in
    ap (λ (bytes : List ℕ). take (c.in_ok-span.span.now.end - c.in_ok-span.span.now.start) (drop c.in_ok-span.span.now.start bytes)) c.deref-2.ensures.value
    ∙ there.same ∙ ap (λ (node : NodeLine). compact_text (node_value node)) (c.is_same_node.ensures c.if-not-is_same_node.false)
