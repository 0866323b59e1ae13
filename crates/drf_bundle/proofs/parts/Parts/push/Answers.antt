use Rattle.std.proofs.Common.{◌++◌, ◌∷◌, [], List, sym, ap, ◌∙◌, subst}
use Rattle.drf_bundle.specs.Bundle.{IsBundle}
use Rattle.drf_bundle.proofs.PushLemmas.{kept-push, push_fits}
use Rattle.drf_bundle.specs.declared.resource.Resource.{Resource}
use Rattle.drf_bundle.proofs.parts.Parts.push.Goals as goal

pub add_scalar-requires : goal.add_scalar-requires
add_scalar-requires c =
    let r = c.args.resource in
    push_fits c.self.inside.resources.items c.self.inside.quantities r c.self.invariant (subst (λ (rs : List Resource). IsBundle (rs ++ r ∷ [])) (sym c.self.view_is) c.requires)

pub invariant_of-self-2 : goal.invariant_of-self-2
invariant_of-self-2 c =
    let r = c.args.resource in
    let whole = subst (λ (rs : List Resource). IsBundle (rs ++ r ∷ [])) (sym c.self.view_is) c.requires in
    kept-push c.self.inside.resources.items c.push_reserved.new.self.items c.self.inside.quantities c.add_scalar.new.sums r c.self.invariant whole
    (c.push_reserved.ensures.items ∙ ap (λ (rs : List Resource). rs ++ r ∷ []) c.in_ok-reserve.ensures.items) c.in_ok-add_scalar.ensures.ok
