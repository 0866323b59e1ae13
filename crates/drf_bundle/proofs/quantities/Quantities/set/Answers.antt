use Rattle.std.proofs.Common.{List, IsTrue, refl, sym, subst, ◌∙◌}
use Rattle.std.proofs.lemmas.Bool.{false≢true}
use Rattle.drf_bundle.specs.declared.quantities.Entry.{Entry}
use Rattle.drf_bundle.specs.Quantities.{is_in_order}
use Rattle.drf_bundle.proofs.theorems.QuantitiesLaws.{in_order-with}
use Rattle.drf_bundle.proofs.PlaceLemmas.{set_here, added_here, named_in_free_slot}
use Rattle.drf_bundle.proofs.quantities.Quantities.set.Goals as goal

-- the label was named, and its amount is overwritten
pub returns-in-Ok-clause-ok : goal.returns-in-Ok-clause-ok
returns-in-Ok-clause-ok c = set_here _ _ _ _ _ _ _ _ c.self.view_is c.self.invariant refl c.new-amount.ensures c.in-Ok.ensures.found c.index_mut-entry.ensures.value

pub invariant_of-self : goal.invariant_of-self
invariant_of-self c =
    let ordered = subst (λ (es : List Entry). IsTrue (is_in_order es)) c.self.view_is c.self.invariant in
    let written = set_here _ _ _ _ _ c.args.thousandths _ _ c.self.view_is c.self.invariant refl c.new-amount.ensures c.in-Ok.ensures.found c.index_mut-entry.ensures.value in
    rw written (in_order-with c.args.self.now c.args.label c.args.thousandths ordered)

-- the entry is inserted at its place
pub returns-in_ok-insert-in-Err-clause-ok : goal.returns-in_ok-insert-in-Err-clause-ok
returns-in_ok-insert-in-Err-clause-ok c = added_here _ _ _ _ _ _ _ _ c.self.view_is refl c.new-amount.ensures c.in-Err.ensures.absent c.in_ok-insert-in-Err.ensures.items

pub invariant_of-self-in-Err : goal.invariant_of-self-in-Err
invariant_of-self-in-Err c =
    let ordered = subst (λ (es : List Entry). IsTrue (is_in_order es)) c.self.view_is c.self.invariant in
    let written = added_here _ _ _ _ c.args.label _ c.args.thousandths _ c.self.view_is refl c.new-amount.ensures c.in-Err.ensures.absent c.in_ok-insert-in-Err.ensures.items in
    rw written (in_order-with c.args.self.now c.args.label c.args.thousandths ordered)

-- memory runs out only for a label that was not named
pub returns-in_err-insert-in-Err-clause-named : goal.returns-in_err-insert-in-Err-clause-named
returns-in_err-insert-in-Err-clause-named c named =
    let absent = named_in_free_slot _ _ _ c.in-Err.ensures.absent in
    absurd (false≢true (sym absent ∙ named))
