use Rattle.std.proofs.Common.{ℕ, List, IsTrue, refl, sym, ap, ◌∙◌, subst}
use Rattle.drf_bundle.specs.declared.quantities.Entry.{Entry}
use Rattle.drf_bundle.specs.Quantities.{is_in_order, with_amount}
use Rattle.drf_bundle.proofs.theorems.QuantitiesLaws.{in_order-with}
use Rattle.drf_bundle.proofs.PlaceLemmas.{added_here}
use Rattle.drf_bundle.proofs.quantities.Quantities.name_at.Goals as goal

-- the entry is inserted at its place
pub returns-clause-ok : goal.returns-clause-ok
returns-clause-ok c =
    let named = sym c.in_ok-label.ensures in
    added_here _ _ _ _ _ _ c.args.thousandths _ c.self.view_is named c.new-amount.ensures c.requires c.in_ok-put_at.ensures.ok
    ∙ ap (λ (l : List ℕ). with_amount c.args.self.now l c.args.thousandths) c.in_ok-label.ensures

pub invariant_of-self-2 : goal.invariant_of-self-2
invariant_of-self-2 c =
    let ordered = subst (λ (es : List Entry). IsTrue (is_in_order es)) c.self.view_is c.self.invariant in
    let total = c.new-amount.result in
    let named = sym c.in_ok-label.ensures in
    let written = added_here _ _ _ _ c.in_ok-label.label _ total _ c.self.view_is named refl c.requires c.in_ok-put_at.ensures.ok in
    rw written (in_order-with c.args.self.now c.in_ok-label.label total ordered)
