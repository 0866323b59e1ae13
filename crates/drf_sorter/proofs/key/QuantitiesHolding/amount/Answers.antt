use Rattle.std.proofs.Common.{◌≡◌, ◌∙◌, ◌<◌, length, ap, sym, arith}
use Rattle.drf_bundle.specs.Quantities.{amount_of}
use Rattle.drf_role.specs.TextLaws.{same_from_test}
use Rattle.drf_sorter.proofs.ShareLemmas.{amount_at}
use Rattle.drf_sorter.proofs.key.QuantitiesHolding.amount.Goals as goal

pub returns-then-eq : goal.returns-then-eq
returns-then-eq c =
    let held = c.args.self.now in
    let e = c.index-entries-at.result in
    let long = ap length c.entries-entries.ensures.value in
    let inside : c.min-at.result < length held = grind (arith, c.min-at.ensures, c.if-is_empty.ensures, long) in
    let same : e.label ≡ c.args.label.now = same_from_test e.label c.args.label.now (sym c.if-eq.ensures) in
    c.thousandths.ensures
    ∙ sym (amount_at held c.min-at.result e c.entries-entries.ensures.in_order inside (rw c.entries-entries.ensures.value at c.index-entries-at.is))
    ∙ ap (amount_of held) same
