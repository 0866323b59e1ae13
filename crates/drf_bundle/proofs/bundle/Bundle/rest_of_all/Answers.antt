use Rattle.std.proofs.Common.{◌≡◌, IfOk, map, ap, ◌∙◌, subst, take_all, List}
use Rattle.drf_bundle.specs.Bundle.{filled_of}
use Rattle.drf_bundle.specs.declared.resource.Resource.{Resource}
use Rattle.drf_bundle.proofs.LeftLemmas.{left_after, bundle-left_after, left_after_all}
use Rattle.drf_bundle.proofs.bundle.Bundle.rest_of_all.Goals as goal

pub new-requires : goal.new-requires
new-requires c =
    let parts : List (List Resource) = map (λ p. p.1) c.args.parts.now in
    let all = c.loop-i.invariant ∙ ap (λ (rs : List Resource). filled_of (map (left_after parts) rs)) (take_all _ _ c.loop-i-test.false ∙ c.entries-resource-items.ensures.value) in
    rw all (bundle-left_after c.args.self.now parts c.entries-resource-items.ensures.bundle c.requires)

pub returns : goal.returns
returns c =
    let parts : List (List Resource) = map (λ p. p.1) c.args.parts.now in
    let all = c.loop-i.invariant ∙ ap (λ (rs : List Resource). filled_of (map (left_after parts) rs)) (take_all _ _ c.loop-i-test.false ∙ c.entries-resource-items.ensures.value) in
    subst (λ (rs : List Resource). IfOk c.new.result (λ left. left ≡ rs))
    (all ∙ left_after_all c.args.self.now parts c.entries-resource-items.ensures.bundle c.requires) c.new.ensures
