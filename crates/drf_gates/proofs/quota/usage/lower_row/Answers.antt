use Rattle.std.proofs.Common.{List, ap, arith}
use Rattle.drf_bundle.specs.Quantities.{amount_of}
use Rattle.drf_bundle.proofs.theorems.QuantitiesLaws.{amount-minus, covers_from}
use Rattle.drf_bundle.specs.declared.quantities.Entry.{Entry}
use Rattle.drf_gates.proofs.quota.usage.lower_row.Goals as goal

pub lower-requires : goal.lower-requires
lower-requires c = covers_from c.args.row.now c.args.amounts.now c.recall.ensures c.requires

pub returns-clause-left : goal.returns-clause-left
returns-clause-left c = λ label.
    let row : List Entry = c.args.row.now in
    let amounts : List Entry = c.args.amounts.now in
    omega (
      arith,
      c.prune.ensures.same label,
      ap (λ (q : List Entry). amount_of q label) c.lower.ensures,
      amount-minus row amounts label,
      c.requires label,
    )
