use Rattle.std.proofs.Common.{List, length, ap, sym, ◌∙◌}
use Rattle.std.proofs.lemmas.Bool.{eq-eqb, false≢true}
use Rattle.drf_bundle.specs.Quantities.{amount_of}
use Rattle.drf_bundle.proofs.theorems.QuantitiesLaws.{amount-without_zeros}
use Rattle.drf_bundle.specs.declared.quantities.Entry.{Entry}
use Rattle.drf_gates.proofs.quota.Something.{left_something}
use Rattle.drf_gates.proofs.quota.usage.prune.Goals as goal

pub returns-clause-same : goal.returns-clause-same
returns-clause-same c = λ label.
    ap (λ (q : List Entry). amount_of q label) c.remove_zeros.ensures.value
    ∙ amount-without_zeros c.args.row.now label c.recall.ensures

pub returns-clause-some : goal.returns-clause-some
returns-clause-some c = λ left.
    let row : List Entry = c.remove_zeros.new.self in
    left_something row c.remove_zeros.ensures.none.above_zero (λ none.
    false≢true (sym left ∙ c.is_empty.ensures ∙ eq-eqb (length c.entries.result.now) 0 (ap (λ (es : List Entry). length es) (c.entries.ensures.value ∙ none))))
