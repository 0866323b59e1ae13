use Rattle.std.proofs.Common.{◌∙◌, inl, inr}
use Rattle.drf_tree.proofs.change.Label.{named_at, names_more}
use Rattle.drf_tree.proofs.charge.name_each.Goals as goal

pub loop-entry-preserved : goal.loop-entry-preserved
loop-entry-preserved c = record {
  same = λ label. c.in_ok-name.ensures.same label ∙ c.loop-entry.invariant.same label;
  few = λ label named. elim (c.in_ok-name.ensures.few label named) [
    | inl before ↦ c.loop-entry.invariant.few label before
    | inr same ↦
        inr (named_at c.entries-entry-items.result.now c.loop-entry.entry-index c.entry-item.result label
        c.loop-entry-test.true c.entry-item.is same)
  ];
  named =
      names_more c.loop-entry.held c.name.new.held c.entries-entry-items.result.now c.loop-entry.entry-index c.entry-item.result
      c.loop-entry-test.true c.entry-item.is c.in_ok-name.ensures.stay c.in_ok-name.ensures.named c.loop-entry.invariant.named;
}
