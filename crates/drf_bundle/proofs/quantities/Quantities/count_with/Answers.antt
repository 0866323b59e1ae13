use Rattle.std.proofs.Common.{List, length, ap, sym, arith}
use Rattle.std.proofs.lemmas.List.{drop_all}
use Rattle.drf_bundle.specs.declared.quantities.Entry.{Entry}
use Rattle.drf_bundle.proofs.theorems.QuantitiesLaws.{length-plus, unnamed_in}
use Rattle.drf_bundle.proofs.ChangeLemmas.{unnamed_from}
use Rattle.drf_bundle.proofs.quantities.Quantities.count_with.Goals.{then-not-is_named_near, else-not-is_named_near}
use Rattle.drf_bundle.proofs.quantities.Quantities.count_with.Goals as goal

pub loop-entry-init : goal.loop-entry-init
loop-entry-init c = rw (c.entries.ensures.value, c.entries-entry-items.ensures.value) (record {
  whole = omega (arith, length-plus c.args.self.now c.args.other.now c.entries.ensures.in_order c.entries-entry-items.ensures.in_order);
  small = omega arith;
})

pub loop-entry-preserved : goal.loop-entry-preserved
loop-entry-preserved c =
    let step = unnamed_from c.args.self.now _ _ c.entry-item.result c.is_named_near.result c.loop-entry-test.true c.entry-item.is (sym c.is_named_near.ensures) in
    let so_far = c.loop-entry.invariant in
    elim c.if-not-is_named_near.branch [
      | then-not-is_named_near w ↦
          let new = rw w.if-not-is_named_near.true at step in
          record { whole = omega arith; small = omega arith }
      | else-not-is_named_near w ↦
          let known = rw w.if-not-is_named_near.false at step in
          record { whole = omega arith; small = omega arith }
    ]

pub returns : goal.returns
returns c =
    let none = drop_all _ _ c.loop-entry-test.false in
    let whole = c.loop-entry.invariant.whole in
    omega (arith, ap (λ (l : List Entry). length (unnamed_in c.args.self.now l)) none)
