use Rattle.std.proofs.Common.{◌<◌, ℕ, List, ap, inl, inr, subst, ◌∙◌}
use Rattle.drf_tree.proofs.Names.{amount_of, Entry}
use Rattle.drf_bundle.proofs.theorems.QuantitiesLaws.{amount-without_zeros}
use Rattle.drf_tree.proofs.change.Label.{above_zero}
use Rattle.drf_tree.proofs.charge.name_all.Goals as goal

pub returns-clause-same : goal.returns-clause-same
returns-clause-same c = λ label.
    c.name_each.ensures.same label
    ∙ ap (λ (es : List Entry). amount_of es label) c.remove_zeros.ensures.value
    ∙ amount-without_zeros c.args.held.now label c.recall.ensures

pub returns-clause-few : goal.returns-clause-few
returns-clause-few c some label named =
    let held = c.args.held.now in
    elim (c.name_each.ensures.few label named) [
      | inl before ↦
          let above = above_zero c.remove_zeros.new.self label c.remove_zeros.ensures.none.above_zero before in
          inl (subst (λ (n : ℕ). 0 < n)
          (ap (λ (es : List Entry). amount_of es label) c.remove_zeros.ensures.value ∙ amount-without_zeros held label c.recall.ensures)
          above)
      | inr other ↦ inr other
    ]
