use Rattle.std.proofs.Common.{◌≡◌, ◌+◌, ℕ, List, nat_le, sym, ap, ◌∙◌}
use Rattle.drf_bundle.specs.Value.{Thousandths, units_in}
use Rattle.drf_bundle.specs.Bundle.{stock}
use Rattle.drf_bundle.specs.Quantities.{amount_of}
use Rattle.drf_bundle.proofs.theorems.SumLaws.{amount-kept}
use Rattle.drf_bundle.specs.Union.{has_other_kind, is_reserved_elsewhere}
use Rattle.drf_bundle.proofs.theorems.UnionLaws.{refusal_is}
use Rattle.drf_bundle.specs.declared.resource.Resource.{Resource}
use Rattle.drf_bundle.proofs.parts.Parts.union_refusal.Goals as goal

pub returns : goal.returns
returns c =
    let r = c.args.resource.now in
    let kinds = ap (λ (rs : List Resource). has_other_kind rs r.label r.value) (sym (c.deref.ensures.value ∙ c.self.view_is)) ∙ sym c.has_other_kind.ensures ∙ c.if-has_other_kind.false in
    let members = ap (λ (rs : List Resource). is_reserved_elsewhere rs r) (sym (c.deref-2.ensures.value ∙ c.self.view_is)) ∙ sym c.is_reserved_elsewhere.ensures ∙ c.if-is_reserved_elsewhere.false in
    let sum : amount_of c.self.inside.quantities r.label ≡ stock c.args.self.now r.label Thousandths = amount-kept _ _ r.label c.self.invariant ∙ ap (λ (rs : List Resource). stock rs r.label Thousandths) c.self.view_is in
    let large = ap (λ (n : ℕ). nat_le 18446744073709551616 (n + units_in r.value Thousandths)) sum in
    c.then_some.ensures ∙ refusal_is c.args.self.now r c.is_too_much.result kinds members (c.is_too_much.ensures ∙ large)
