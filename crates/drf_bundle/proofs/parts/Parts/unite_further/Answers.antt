use Rattle.std.proofs.Common.{◌≡◌, List, None, sym, ap, ◌∙◌, arith}
use Rattle.std.proofs.lemmas.Bool.{false≢true}
use Rattle.drf_bundle.specs.Value.{Thousandths}
use Rattle.drf_bundle.specs.Bundle.{stock}
use Rattle.drf_bundle.specs.Quantities.{amount_of}
use Rattle.drf_bundle.proofs.theorems.SumLaws.{amount-kept}
use Rattle.drf_bundle.specs.Union.{IsPiece, union_refusal}
use Rattle.drf_bundle.proofs.theorems.UnionLaws.{room_from_refusal, room_fits, union_empty, some_in, kept-merged}
use Rattle.drf_bundle.specs.declared.resource.Resource.{Resource}
use Rattle.drf_bundle.proofs.parts.Parts.unite_further.Goals as goal

pub returns-then-is_empty-clause-ok : goal.returns-then-is_empty-clause-ok
returns-then-is_empty-clause-ok c =
    let r = c.args.resource in
    union_empty c.args.self.now r (sym c.union_refusal.ensures ∙ c.in_default.is) (c.is_empty.ensures.is_empty.0 c.if-is_empty.true)

pub put-requires-clause-fits : goal.put-requires-clause-fits
put-requires-clause-fits c =
    let r = c.args.resource in
    let had : amount_of c.self.inside.quantities r.label ≡ stock c.args.self.now r.label Thousandths =
    amount-kept _ _ r.label c.self.invariant ∙ ap (λ (rs : List Resource). stock rs r.label Thousandths) c.self.view_is in
    omega (arith, had, room_fits c.args.self.now r (room_from_refusal c.args.self.now r (sym c.union_refusal.ensures ∙ c.in_default.is)))

pub invariant_of-self-2 : goal.invariant_of-self-2
invariant_of-self-2 c =
    let r = c.args.resource in
    let none : union_refusal c.self.inside.resources.items r ≡ None = ap (λ (rs : List Resource). union_refusal rs r) c.self.view_is ∙ sym c.union_refusal.ensures ∙ c.in_default.is in
    let piece : IsPiece r = record { label = c.recall.ensures; role = c.recall-2.ensures.right; role_read = c.recall-2.ensures.parts; value = c.is_empty.ensures.given } in
    let some = some_in r (λ zero. false≢true (sym c.if-is_empty.false ∙ c.is_empty.ensures.is_empty.1 zero)) in
    kept-merged c.self.inside.resources.items c.put.new.resources.items c.self.inside.quantities c.put.new.sums r c.self.invariant piece none some c.in_ok-put.ensures.ok.0 c.in_ok-put.ensures.ok.1
