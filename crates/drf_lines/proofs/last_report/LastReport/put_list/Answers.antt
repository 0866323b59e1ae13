use Rattle.std.proofs.Common.{◌≡◌, ◌+◌, ◌∷◌, ◌++◌, [], map, length, length-append, get_or, List, Some, refl, ap, sym, ◌∙◌, subst, arith}
use Rattle.std.specs.Prelude.{slice_get}
use Rattle.std.proofs.lemmas.Option.{slice_get_read}
use Rattle.std.proofs.lemmas.Result.{on_ok_weaker}
use Rattle.serde_json.specs.Data.{array}
use Rattle.serde_json.specs.View.{items_of}
use Rattle.serde_json.specs.Written.{compact_text}
use Rattle.drf_lines.specs.declared.last_report.Span.{Span}
use Rattle.drf_lines.specs.LastReport.{AreTexts}
use Rattle.drf_lines.specs.ReportLine.{node_value}
use Rattle.drf_lines.proofs.ReplyTexts.{items_begun, item_more, items_ended}
use Rattle.drf_lines.proofs.KeptTexts.{no_texts, texts_more, texts_pushed, text_written}
use Rattle.drf_lines.proofs.last_report.LastReport.put_list.Goals as goal

pub loop-i-init : goal.loop-i-init
loop-i-init c = record {
  reported = items_begun node_value c.args.nodes.now c.args.text.now.items c.put_byte.new.line.items c.in_ok-put_byte.ensures.ok;
  count = ap (λ (s : List Span). length s) c.requires.none;
  lies = no_texts c.put_byte.new.line.items c.args.spans.now.items c.args.nodes.now c.requires.none;
}

pub loop-i-preserved : goal.loop-i-preserved
loop-i-preserved c =
    let nodes = c.args.nodes.now in
    let node = c.index-nodes-i.result in
    let total = c.args.text.now.items ++ compact_text (array (items_of (map node_value nodes))) in
    let before = c.loop-i.text.items in
    let mid = c.put_comma.new.line.items in
    let after = c.put_node.new.text.items in
    let spans = c.loop-i.spans.items in
    let span : Span = record { start = c.len-start.result; end = c.len-end.result } in
    let here : slice_get nodes (length spans) ≡ Some node =
    slice_get_read nodes (length nodes) (length spans) node refl (omega (arith, c.loop-i.invariant.count, c.loop-i-test.true))
    (subst (λ i. node ≡ get_or nodes i node) (sym c.loop-i.invariant.count) c.index-nodes-i.is) in
    let so_far : AreTexts after spans nodes =
    texts_more mid _ spans nodes c.in_ok-put_node.ensures.ok (texts_more before _ spans nodes c.in_ok-put_comma.ensures.ok c.loop-i.invariant.lies) in
    record {
      reported = item_more node_value nodes c.loop-i.i node total before mid after
          c.loop-i-test.true c.index-nodes-i.is c.loop-i.invariant.reported c.in_ok-put_comma.ensures.ok c.in_ok-put_node.ensures.ok;
      count = ap (λ (s : List Span). length s) c.in_ok-push.ensures.items ∙ length-append spans (span ∷ []) ∙ ap (λ n. n + 1) c.loop-i.invariant.count;
      lies = subst (λ (s : List Span). AreTexts after s nodes) (sym c.in_ok-push.ensures.items)
          (texts_pushed after spans span nodes node here so_far (text_written mid span node c.in_ok-put_node.ensures.ok (c.len-start.ensures ∙ c.put_comma.new.line.ok.0) (c.len-end.ensures ∙ c.put_node.new.text.ok.0)));
    }

pub returns-clause-ok : goal.returns-clause-ok
returns-clause-ok c =
    let total = c.args.text.now.items ++ compact_text (array (items_of (map node_value c.args.nodes.now))) in
    on_ok_weaker c.put_byte-2.result
    (λ end. items_ended node_value c.args.nodes.now c.loop-i.i total c.loop-i.text.items c.put_byte-2.new.line.items c.loop-i-test.false c.loop-i.invariant.reported end)
    c.put_byte-2.ensures.ok

pub returns-clause-texts : goal.returns-clause-texts
returns-clause-texts c =
    on_ok_weaker c.put_byte-2.result
    (λ end. texts_more c.loop-i.text.items _ c.loop-i.spans.items c.args.nodes.now end c.loop-i.invariant.lies)
    c.put_byte-2.ensures.ok
