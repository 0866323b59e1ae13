use Rattle.std.proofs.Common.{◌≡◌, ◌+◌, ◌^◌, List, IsTrue, inl, inr, refl, sym, subst, arith, lt-ltb, le-ltb}
use Rattle.std.proofs.lemmas.Bool.{cases_lt}
use Rattle.drf_bundle.specs.declared.quantities.Entry.{Entry}
use Rattle.drf_bundle.specs.Quantities.{amount_of, is_in_order}
use Rattle.drf_bundle.proofs.theorems.QuantitiesLaws.{in_order-with}
use Rattle.drf_bundle.proofs.PlaceLemmas.{amount_here, set_here, stands_here}
use Rattle.drf_bundle.proofs.quantities.Quantities.add_at.Goals as goal

-- the sum is too large
pub returns-in_default-clause-result : goal.returns-in_default-clause-result
returns-in_default-clause-result c label at =
    let had = amount_here _ _ _ _ _ _ c.self.view_is c.self.invariant refl at c.index_mut-entry.ensures.value in
    elim (cases_lt (c.thousandths.result + c.args.thousandths) (2 ^ 64)) [
      | inl below ↦ absurd (c.in_default.ensures below)
      | inr above ↦ sym (le-ltb _ _ (omega (arith, had, c.thousandths.ensures, above)))
    ]

pub invariant_of-self-2 : goal.invariant_of-self-2
invariant_of-self-2 c =
    let ordered = subst (λ (es : List Entry). IsTrue (is_in_order es)) c.self.view_is c.self.invariant in
    let read = c.index_mut-entry.ensures.value in
    let at = stands_here _ _ _ _ c.self.view_is c.requires read in
    let written = set_here _ _ _ _ c.new-entry.result c.new-entry.result _ _ c.self.view_is c.self.invariant refl refl at read in
    rw written (in_order-with c.args.self.now c.index_mut-entry.result.now.label c.new-entry.result ordered)

-- the amount is raised
pub returns-clause-ok : goal.returns-clause-ok
returns-clause-ok c label at done =
    let had = amount_here _ _ _ _ _ _ c.self.view_is c.self.invariant refl at c.index_mut-entry.ensures.value in
    let sum : c.new-entry.result ≡ amount_of c.args.self.now label + c.args.thousandths =
    omega (arith, had, c.new-entry.ensures, c.in-Some.ensures, c.thousandths.ensures) in
    set_here _ _ _ _ _ _ _ _ c.self.view_is c.self.invariant refl sum at c.index_mut-entry.ensures.value

pub returns-clause-result : goal.returns-clause-result
returns-clause-result c label at =
    let had = amount_here _ _ _ _ _ _ c.self.view_is c.self.invariant refl at c.index_mut-entry.ensures.value in
    sym (lt-ltb _ _ (omega (arith, had, c.in-Some.ensures, c.thousandths.ensures)))
