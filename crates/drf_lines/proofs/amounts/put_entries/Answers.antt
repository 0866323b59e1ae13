use Rattle.std.proofs.Common.{◌++◌, ◌+◌, ◌∷◌, List, ℕ, drop, sym, ap, ◌∙◌}
use Rattle.std.proofs.lemmas.List.{at_drop_more}
use Rattle.drf_bundle.specs.declared.quantities.Entry.{Entry}
use Rattle.drf_lines.specs.Amounts.{left_amounts}
use Rattle.drf_lines.proofs.LeftAmounts.{entries_begun}
use Rattle.drf_lines.proofs.amounts.put_entries.Goals as goal

pub loop-entry-init : goal.loop-entry-init
loop-entry-init c = record {
  text = ap (λ (left : List ℕ). c.args.line.now.items ++ left) (entries_begun c.args.entries.now);
  prefix = λ prefix begins. begins;
  utf8 = λ right. right;
}

pub loop-entry-preserved : goal.loop-entry-preserved
loop-entry-preserved c =
    let entries = c.args.entries.now in
    let i = c.loop-entry.entry-index in
    let reported = λ (left : List Entry). c.loop-entry.line.items ++ left_amounts c.loop-entry.has_any left in
    record {
      text = c.in_ok-has_any.ensures.ok (drop (i + 1) entries) ∙ ap (λ (entry : Entry). reported (entry ∷ drop (i + 1) entries)) c.entry-item.is
          ∙ sym (at_drop_more reported entries i c.entry-item.result c.loop-entry-test.true) ∙ c.loop-entry.invariant.text;
      prefix = λ prefix begins. c.put_next.ensures.prefix prefix (c.loop-entry.invariant.prefix prefix begins);
      utf8 = λ right. c.in_ok-has_any.ensures.utf8 (c.loop-entry.invariant.utf8 right);
    }
