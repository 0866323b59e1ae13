use Rattle.std.proofs.Common.{List, ap, ◌∙◌}
use Rattle.drf_bundle.specs.Quantities.{amount_of}
use Rattle.drf_bundle.proofs.theorems.QuantitiesLaws.{amount-plus}
use Rattle.drf_bundle.specs.declared.quantities.Entry.{Entry}
use Rattle.drf_gates.proofs.quota.Something.{more_something}
use Rattle.drf_gates.proofs.quota.usage.raise_row.Goals as goal

pub returns-clause-done : goal.returns-clause-done
returns-clause-done c = λ done label.
    ap (λ (es : List Entry). amount_of es label) c.raise.ensures ∙ amount-plus c.args.row.now c.args.amounts.now label c.recall.ensures

pub returns-clause-some : goal.returns-clause-some
returns-clause-some c =
    more_something c.args.row.now c.args.amounts.now c.raise.new.self (λ label.
    ap (λ (es : List Entry). amount_of es label) c.raise.ensures ∙ amount-plus c.args.row.now c.args.amounts.now label c.recall.ensures)
