use Rattle.std.proofs.Common.{List, ap, ◌∙◌}
use Rattle.drf_bundle.specs.Quantities.{amount_of}
use Rattle.drf_bundle.specs.declared.quantities.Entry.{Entry}
use Rattle.drf_bundle.proofs.theorems.QuantitiesLaws.{amount-plus, amount-without_zeros}
use Rattle.drf_sorter.proofs.client.raise.Goals as goal

pub returns-then-names_all-clause-ok : goal.returns-then-names_all-clause-ok
returns-then-names_all-clause-ok c = λ label.
    ap (λ (es : List Entry). amount_of es label) c.raise.ensures ∙ amount-plus c.args.held.now c.args.more.now label c.recall.ensures

pub returns-clause-ok : goal.returns-clause-ok
returns-clause-ok c = λ label.
    ap (λ (es : List Entry). amount_of es label) c.remove_zeros.ensures.value
    ∙ amount-without_zeros c.in_ok-sum.sum label c.recall-2.ensures
    ∙ ap (λ (es : List Entry). amount_of es label) c.in_ok-sum.ensures
    ∙ amount-plus c.args.held.now c.args.more.now label c.recall.ensures
