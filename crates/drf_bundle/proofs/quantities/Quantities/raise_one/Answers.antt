use Rattle.std.proofs.Common.{◌+◌, ℕ, List, IsTrue, refl, sym, ap, ◌∙◌, subst, arith}
use Rattle.std.proofs.lemmas.Bool.{false≢true}
use Rattle.drf_bundle.specs.declared.quantities.Entry.{Entry}
use Rattle.drf_bundle.specs.Quantities.{amount_of, is_in_order}
use Rattle.drf_bundle.proofs.theorems.QuantitiesLaws.{in_order-with}
use Rattle.drf_bundle.proofs.PlaceLemmas.{amount_here, set_here}
use Rattle.drf_bundle.proofs.quantities.Quantities.raise_one.Goals as goal

-- the label is named, so it has a place
pub returns-in_default : goal.returns-in_default
returns-in_default c = absurd (false≢true (sym c.in_default.ensures.none ∙ c.requires.named))

pub overflow_add-sum : goal.overflow_add-sum
overflow_add-sum c =
    let had = amount_here _ _ _ _ _ _ c.self.view_is c.self.invariant refl c.in-Some.ensures.found c.index_mut-entry.ensures.value in
    omega (arith, had, c.thousandths.ensures, c.requires.fits)

pub invariant_of-self : goal.invariant_of-self
invariant_of-self c =
    let ordered = subst (λ (es : List Entry). IsTrue (is_in_order es)) c.self.view_is c.self.invariant in
    let total = amount_of c.args.self.now c.args.label.now + c.args.thousandths in
    let had = amount_here _ _ _ _ _ _ c.self.view_is c.self.invariant refl c.in-Some.ensures.found c.index_mut-entry.ensures.value in
    let sum = c.new-entry.ensures ∙ ap (λ (n : ℕ). n + c.args.thousandths) (c.thousandths.ensures ∙ had) in
    let written = set_here _ _ _ _ _ total _ _ c.self.view_is c.self.invariant refl sum c.in-Some.ensures.found c.index_mut-entry.ensures.value in
    rw written (in_order-with c.args.self.now c.args.label.now total ordered)

-- the amount is raised
pub returns : goal.returns
returns c =
    let had = amount_here _ _ _ _ _ _ c.self.view_is c.self.invariant refl c.in-Some.ensures.found c.index_mut-entry.ensures.value in
    let sum = c.new-entry.ensures ∙ ap (λ (n : ℕ). n + c.args.thousandths) (c.thousandths.ensures ∙ had) in
    set_here _ _ _ _ _ _ _ _ c.self.view_is c.self.invariant refl sum c.in-Some.ensures.found c.index_mut-entry.ensures.value
