use Rattle.std.proofs.Common.{◌≡◌, ◌+◌, ℕ, List, IsTrue, OnOk, refl, ap, ◌∙◌, subst, arith}
use Rattle.drf_bundle.specs.declared.quantities.Entry.{Entry}
use Rattle.drf_bundle.specs.Quantities.{amount_of, is_in_order, with_amount}
use Rattle.drf_bundle.proofs.theorems.QuantitiesLaws.{in_order-with}
use Rattle.drf_bundle.proofs.PlaceLemmas.{amount_here, set_here, sum_in_free_slot}
use Rattle.drf_bundle.proofs.quantities.Quantities.add.Goals as goal

pub overflow_add-sum : goal.overflow_add-sum
overflow_add-sum c =
    let had = amount_here _ _ _ _ _ _ c.self.view_is c.self.invariant refl c.in-Ok.ensures.found c.index_mut-entry.ensures.value in
    omega (arith, had, c.thousandths.ensures, c.requires)

-- the label was named, and its amount is raised
pub returns-in-Ok-clause-ok : goal.returns-in-Ok-clause-ok
returns-in-Ok-clause-ok c =
    let had = amount_here _ _ _ _ _ _ c.self.view_is c.self.invariant refl c.in-Ok.ensures.found c.index_mut-entry.ensures.value in
    let sum = c.new-entry.ensures ∙ ap (λ (n : ℕ). n + c.args.thousandths) (c.thousandths.ensures ∙ had) in
    set_here _ _ _ _ _ _ _ _ c.self.view_is c.self.invariant refl sum c.in-Ok.ensures.found c.index_mut-entry.ensures.value

pub invariant_of-self : goal.invariant_of-self
invariant_of-self c =
    let ordered = subst (λ (es : List Entry). IsTrue (is_in_order es)) c.self.view_is c.self.invariant in
    let total = amount_of c.args.self.now c.args.label.now + c.args.thousandths in
    let had = amount_here _ _ _ _ _ _ c.self.view_is c.self.invariant refl c.in-Ok.ensures.found c.index_mut-entry.ensures.value in
    let sum = c.new-entry.ensures ∙ ap (λ (n : ℕ). n + c.args.thousandths) (c.thousandths.ensures ∙ had) in
    let written = set_here _ _ _ _ _ total _ _ c.self.view_is c.self.invariant refl sum c.in-Ok.ensures.found c.index_mut-entry.ensures.value in
    rw written (in_order-with c.args.self.now c.args.label.now total ordered)

-- the label was not named
pub returns-in-Err-clause-ok : goal.returns-in-Err-clause-ok
returns-in-Err-clause-ok c =
    subst (λ (n : ℕ). OnOk c.name_at.result (c.name_at.new.self ≡ with_amount c.args.self.now c.args.label.now n))
    (sum_in_free_slot _ _ _ c.args.thousandths c.in-Err.ensures.absent) c.name_at.ensures.ok
