use Rattle.std.proofs.Common.{◌≡◌, ◌-◌, List, IsTrue, ◌∙◌, sym, subst, arith}
use Rattle.drf_bundle.specs.Quantities.{amount_of, is_in_order, covers}
use Rattle.drf_bundle.proofs.theorems.QuantitiesLaws.{in_order-minus}
use Rattle.drf_bundle.specs.declared.quantities.Entry.{Entry}
use Rattle.drf_bundle.proofs.ChangeLemmas.{unchanged_at, enough_at, lowered_more, lowered_all, refilled}
use Rattle.drf_bundle.proofs.quantities.Quantities.lower.Goals as goal

pub overflow_sub-thousandths : goal.overflow_sub-thousandths
overflow_sub-thousandths c =
    let others = c.args.other.now in
    let e = c.entry-item.result in
    let items : c.self.inside.entries.items ≡ c.deref_mut-entry-items.result.now = sym c.deref_mut-entry-items.ensures.value in
    let ordered = subst (λ (es : List Entry). IsTrue (is_in_order es)) items c.self.invariant in
    let covered = subst (λ (es : List Entry). IsTrue (covers es others)) (sym c.self.view_is ∙ items) c.requires in
    let was = unchanged_at others _ _ _ e c.loop-entry-test.true c.loop-entry.invariant c.entry-item.is in
    let part : c.amount_near-part.result ≡ amount_of others e.label = cc in
    let all : c.thousandths.result ≡ e.amount = cc in
    omega (arith, enough_at _ others _ e ordered covered c.loop-entry-test.true was)

pub loop-entry-preserved : goal.loop-entry-preserved
loop-entry-preserved c =
    let e = c.entry-item.result in
    let lowered : c.new-entry.result ≡ e.amount - amount_of c.args.other.now e.label = cc in
    lowered_more c.args.other.now _ _ _ e _ c.loop-entry-test.true c.loop-entry.invariant c.entry-item.is lowered

pub invariant_of-self : goal.invariant_of-self
invariant_of-self c =
    let all = lowered_all c.args.other.now _ _ _ c.loop-entry-test.false c.loop-entry.invariant in
    let ordered : IsTrue (is_in_order c.loop-entry.entry-items) = rw (all, in_order-minus, c.deref_mut-entry-items.ensures.value) c.self.invariant in
    rw (refilled c.self.inside.entries.items c.loop-entry.entry-items c.self.inside.entries.len (omega (arith, c.self.inside.entries.ok.0))) ordered
