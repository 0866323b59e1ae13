use Rattle.std.proofs.Common.{IsTrue, List, nat_lt, subst, rules, refl}
use Rattle.std.proofs.lemmas.Fn.{filter_same}
use Rattle.drf_bundle.specs.declared.quantities.Entry.{Entry}
use Rattle.drf_bundle.specs.Quantities.{is_in_order}
use Rattle.drf_bundle.proofs.theorems.QuantitiesLaws.{in_order-without_zeros, no_zeros-without_zeros}
use Rattle.drf_bundle.proofs.quantities.Quantities.remove_zeros.Goals as goal

pub invariant_of-self : goal.invariant_of-self
invariant_of-self c =
    let kept = filter_same _ (λ (e : Entry). nat_lt 0 e.amount) _ (λ x b f' k. (search rules, search rules)) _ _ c.retain.ensures.filtered in
    rw kept (in_order-without_zeros c.self.inside.entries.items c.self.invariant)

pub returns : goal.returns
returns c =
    let kept = filter_same _ (λ (e : Entry). nat_lt 0 e.amount) _ (λ x b f' k. (search rules, search rules)) _ _ c.retain.ensures.filtered in
    let ordered = subst (λ (es : List Entry). IsTrue (is_in_order es)) c.self.view_is c.self.invariant in
    rw (kept, c.self.view_is) (record { value = refl; none = no_zeros-without_zeros c.args.self.now ordered })
