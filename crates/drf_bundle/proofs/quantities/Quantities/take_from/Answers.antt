use Rattle.std.proofs.Common.{◌≡◌, ◌-◌, ◌≤◌, List, IsTrue, inl, inr, refl, sym, subst, arith, le-leb}
use Rattle.std.proofs.lemmas.Bool.{cases_lt, lt-leb}
use Rattle.std.proofs.lemmas.Bool.Decides.{nat_tests}
use Rattle.std.proofs.lemmas.Grind.{common_steps}
use Rattle.drf_bundle.specs.declared.quantities.Entry.{Entry}
use Rattle.drf_bundle.specs.Quantities.{amount_of, is_in_order}
use Rattle.drf_bundle.proofs.theorems.QuantitiesLaws.{in_order-with}
use Rattle.drf_bundle.proofs.PlaceLemmas.{amount_unnamed, amount_here, set_here, stands_here, reduced}
use Rattle.drf_bundle.proofs.quantities.Quantities.take_from.Goals as goal

-- the label was not named
pub returns-in_default-clause-result : goal.returns-in_default-clause-result
returns-in_default-clause-result c =
    let none = amount_unnamed c.args.self.now c.args.label.now c.in_default.ensures.none in
    grind (arith, nat_tests, common_steps, none)

-- there was less
pub returns-in_default-checked_sub-clause-result : goal.returns-in_default-checked_sub-clause-result
returns-in_default-checked_sub-clause-result c =
    let had = amount_here _ _ _ _ _ _ c.self.view_is c.self.invariant refl c.in-Some.ensures.found c.index_mut-entry.ensures.value in
    elim (cases_lt c.thousandths.result c.args.thousandths) [
      | inl less ↦ sym (lt-leb _ _ (omega (arith, had, c.thousandths.ensures, less)))
      | inr enough ↦ absurd (c.in_default-checked_sub.ensures enough)
    ]

pub invariant_of-self-2 : goal.invariant_of-self-2
invariant_of-self-2 c =
    let ordered = subst (λ (es : List Entry). IsTrue (is_in_order es)) c.self.view_is c.self.invariant in
    let read = c.index_mut-entry.ensures.value in
    let at = stands_here _ _ _ _ c.self.view_is c.in-Some.ensures.found.in_range read in
    let written = set_here _ _ _ _ c.new-entry.result c.new-entry.result _ _ c.self.view_is c.self.invariant refl refl at read in
    rw written (in_order-with c.args.self.now c.index_mut-entry.result.now.label c.new-entry.result ordered)

-- the amount is reduced
pub returns-clause-ok : goal.returns-clause-ok
returns-clause-ok c done =
    let had = amount_here _ _ _ _ _ _ c.self.view_is c.self.invariant refl c.in-Some.ensures.found c.index_mut-entry.ensures.value in
    let fits : c.args.thousandths ≤ amount_of c.args.self.now c.args.label.now =
    omega (arith, had, c.thousandths.ensures, c.in-Some-checked_sub.ensures) in
    let less : c.new-entry.result ≡ amount_of c.args.self.now c.args.label.now - c.args.thousandths =
    omega (arith, had, c.thousandths.ensures, c.new-entry.ensures, c.in-Some-checked_sub.ensures) in
    let written = set_here _ _ _ _ _ _ _ _ c.self.view_is c.self.invariant refl less c.in-Some.ensures.found c.index_mut-entry.ensures.value in
    reduced c.args.self.now _ c.args.label.now c.args.thousandths written fits

pub returns-clause-result : goal.returns-clause-result
returns-clause-result c =
    let had = amount_here _ _ _ _ _ _ c.self.view_is c.self.invariant refl c.in-Some.ensures.found c.index_mut-entry.ensures.value in
    sym (le-leb _ _ (omega (arith, had, c.thousandths.ensures, c.in-Some-checked_sub.ensures)))
