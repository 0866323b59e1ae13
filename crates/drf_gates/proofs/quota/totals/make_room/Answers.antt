use Rattle.std.proofs.Common.{List, ap, ◌∙◌}
use Rattle.drf_bundle.specs.Quantities.{amount_of}
use Rattle.drf_bundle.specs.declared.quantities.Entry.{Entry}
use Rattle.drf_bundle.proofs.theorems.QuantitiesLaws.{amount-without_zeros}
use Rattle.drf_gates.proofs.quota.totals.make_room.Goals as goal

pub returns-then-not-is_named : goal.returns-then-not-is_named
returns-then-not-is_named c other =
    ap (λ (es : List Entry). amount_of es other) c.remove_zeros.ensures.value ∙ amount-without_zeros c.args.sum.now other c.recall.ensures
