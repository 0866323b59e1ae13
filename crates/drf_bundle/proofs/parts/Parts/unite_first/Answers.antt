use Rattle.std.proofs.Common.{◌≡◌, List, [], ◌∷◌, None, Some, sym, ap, ◌∙◌, subst, arith, rules}
use Rattle.std.proofs.lemmas.Bool.{false≢true}
use Rattle.drf_bundle.specs.Value.{Thousandths}
use Rattle.drf_bundle.proofs.theorems.ValueLaws.{units-most}
use Rattle.drf_bundle.specs.Bundle.{key_of, stock, merged}
use Rattle.drf_bundle.specs.Quantities.{amount_of}
use Rattle.drf_bundle.specs.KeyPlaces.{IsNameFreeSlot}
use Rattle.drf_bundle.proofs.theorems.SumLaws.{amount-kept}
use Rattle.drf_bundle.specs.Union.{IsPiece, union_refusal}
use Rattle.drf_bundle.proofs.theorems.UnionLaws.{union_empty, union_filled, some_in, kept-merged}
use Rattle.drf_bundle.specs.declared.resource.Resource.{Resource}
use Rattle.drf_bundle.proofs.FirstLemmas.{key_free_slot, stock_first, first_is_free}
use Rattle.drf_bundle.proofs.parts.Parts.unite_first.Goals as goal

pub returns-then-is_empty-clause-ok : goal.returns-then-is_empty-clause-ok
returns-then-is_empty-clause-ok c =
    let r = c.args.first in
    union_empty c.args.self.now r (first_is_free c.args.self.now r c.args.at c.requires c.is_empty.ensures.given) (c.is_empty.ensures.is_empty.0 c.if-is_empty.true)

pub put_in_free_slot-requires-clause-free_slot : goal.put_in_free_slot-requires-clause-free_slot
put_in_free_slot-requires-clause-free_slot c =
    let r = c.args.first in
    key_free_slot c.self.inside.resources.items (key_of r) c.args.at (subst (λ (rs : List Resource). IsNameFreeSlot rs r.label c.args.at) (sym c.self.view_is) c.requires)

pub put_in_free_slot-requires-clause-fits : goal.put_in_free_slot-requires-clause-fits
put_in_free_slot-requires-clause-fits c =
    let r = c.args.first in
    let none : amount_of c.self.inside.quantities r.label ≡ 0 =
    amount-kept _ _ r.label c.self.invariant ∙ ap (λ (rs : List Resource). stock rs r.label Thousandths) c.self.view_is ∙ stock_first c.args.self.now r.label c.args.at Thousandths c.requires in
    omega (arith, none, units-most r.value Thousandths c.is_empty.ensures.given)

pub invariant_of-self-2 : goal.invariant_of-self-2
invariant_of-self-2 c =
    let r = c.args.first in
    let none : union_refusal c.self.inside.resources.items r ≡ None = ap (λ (rs : List Resource). union_refusal rs r) c.self.view_is ∙ first_is_free c.args.self.now r c.args.at c.requires c.is_empty.ensures.given in
    let piece : IsPiece r = record { label = c.recall.ensures; role = c.recall-2.ensures.right; role_read = c.recall-2.ensures.parts; value = c.is_empty.ensures.given } in
    let some = some_in r (λ zero. false≢true (sym c.if-is_empty.false ∙ c.is_empty.ensures.is_empty.1 zero)) in
    kept-merged c.self.inside.resources.items c.put_in_free_slot.new.resources.items c.self.inside.quantities c.put_in_free_slot.new.sums r c.self.invariant piece none some c.in_ok-put_in_free_slot.ensures.ok.0 c.in_ok-put_in_free_slot.ensures.ok.1

pub returns-clause-ok : goal.returns-clause-ok
returns-clause-ok c =
    let r = c.args.first in
    let none = first_is_free c.args.self.now r c.args.at c.requires c.is_empty.ensures.given in
    let some = some_in r (λ zero. false≢true (sym c.if-is_empty.false ∙ c.is_empty.ensures.is_empty.1 zero)) in
    let whole : merged c.args.self.now (r ∷ []) ≡ c.put_in_free_slot.new.resources.items =
    ap (λ (rs : List Resource). merged rs (r ∷ [])) (sym c.self.view_is) ∙ sym c.in_ok-put_in_free_slot.ensures.ok.0 in
    union_filled c.args.self.now r none some ∙ ap (λ (rs : List Resource). Some rs) whole

pub returns-in_err-put_in_free_slot-clause-fault : goal.returns-in_err-put_in_free_slot-clause-fault
returns-in_err-put_in_free_slot-clause-fault c =
    let r = c.args.first in
    let none : union_refusal c.args.self.now r ≡ None = first_is_free c.args.self.now r c.args.at c.requires c.is_empty.ensures.given in
    search (rules, none)
