use Rattle.std.proofs.Common.{Some, [], ◌∷◌, ◌++◌, sym, ap, ◌∙◌, subst}
use Rattle.drf_bundle.specs.Value.{less}
use Rattle.drf_bundle.specs.Bundle.{IsBundle, with_value, filled_of}
use Rattle.drf_bundle.proofs.theorems.RestLaws.{bundle-rest}
use Rattle.drf_bundle.proofs.MergeLemmas.{pushed}
use Rattle.drf_bundle.proofs.PushLemmas.{bundle-next}
use Rattle.drf_bundle.proofs.RestLemmas.{rest_begins, left_next, past_left, past_right, both_bundle, past_both, rest_ends}
use Rattle.drf_bundle.specs.declared.resource.Resource.{Resource}
use Rattle.drf_bundle.proofs.merge.rest.Goals as goal

pub loop-side-init : goal.loop-side-init
loop-side-init c = rw c.empty-left.ensures (rest_begins c.args.whole.now c.args.part.now c.requires.whole c.requires.part)

pub push-requires : goal.push-requires
push-requires c =
    bundle-next _ _ _ _ _ _ (bundle-rest c.args.whole.now c.args.part.now c.requires.whole) c.loop-side.invariant.so_far
    (left_next _ _ _ _ c.loop-side.invariant _ (sym c.next_side.ensures ∙ c.in-Some.is ∙ ap Some c.in-Left.is) c.index-whole-0.is) c.in_ok-copy-in-Left.ensures

pub loop-side-preserved-in-Left : goal.loop-side-preserved-in-Left
loop-side-preserved-in-Left c =
    past_left _ _ _ _ c.loop-side.invariant _
    (rw c.in_ok-push-in-Left.ensures.ok
    (pushed _ _ _ _ _ _ c.loop-side.invariant.so_far (left_next _ _ _ _ c.loop-side.invariant _ (sym c.next_side.ensures ∙ c.in-Some.is ∙ ap Some c.in-Left.is) c.index-whole-0.is) c.in_ok-copy-in-Left.ensures))

pub loop-side-preserved-in-Right : goal.loop-side-preserved-in-Right
loop-side-preserved-in-Right c = past_right _ _ _ _ c.loop-side.invariant (sym c.next_side.ensures ∙ c.in-Some.is ∙ ap Some c.in-Right.is)

pub push_left-requires : goal.push_left-requires
push_left-requires c =
    let y = c.index-whole-0-in-Both.result in
    subst (λ (z : Resource). IsBundle (c.loop-side.left ++ filled_of (with_value y (less y.value z.value) ∷ []))) c.index-part-0.is
    (both_bundle _ _ _ _ c.loop-side.invariant _ _ (sym c.next_side.ensures ∙ c.in-Some.is ∙ ap Some c.in-Both.is) c.index-whole-0-in-Both.is c.index-part-0.is
    (bundle-rest c.args.whole.now c.args.part.now c.requires.whole))

pub loop-side-preserved : goal.loop-side-preserved
loop-side-preserved c =
    let y = c.index-whole-0-in-Both.result in
    past_both _ _ _ _ c.loop-side.invariant _ _ _ (sym c.next_side.ensures ∙ c.in-Some.is ∙ ap Some c.in-Both.is) c.index-whole-0-in-Both.is c.index-part-0.is
    (c.in_ok-push_left-in-Both.ensures ∙ ap (λ (z : Resource). c.loop-side.left ++ filled_of (with_value y (less y.value z.value) ∷ [])) (sym c.index-part-0.is))

pub returns : goal.returns
returns c = rest_ends _ _ _ _ c.loop-side.invariant (sym c.next_side.ensures ∙ c.in_default.is)
