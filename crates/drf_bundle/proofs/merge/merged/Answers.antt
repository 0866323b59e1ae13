use Rattle.std.proofs.Common.{Some, sym, ap, ◌∙◌}
use Rattle.drf_bundle.proofs.MergeLemmas.{tail, step_left, step_right, step_both, pushed, fits_left, fits_right, small_together}
use Rattle.drf_bundle.proofs.PushLemmas.{bundle-next}
use Rattle.drf_bundle.proofs.merge.merged.Goals as goal

pub loop-side-preserved-in-Left : goal.loop-side-preserved-in-Left
loop-side-preserved-in-Left c = (
  rw c.in_ok-push-in-Left.ensures.ok
      (pushed _ _ _ _ _ _ c.loop-side.invariant.0 (step_left _ _ _ (sym c.next_side.ensures ∙ c.in-Some.is ∙ ap Some c.in-Left.is) c.index-left-0.is) c.in_ok-copy-in-Left.ensures),
  fits_left c.loop-side.left.now c.loop-side.right.now c.loop-side.invariant.1,
)

pub loop-side-preserved-in-Right : goal.loop-side-preserved-in-Right
loop-side-preserved-in-Right c = (
  rw c.in_ok-push-in-Right.ensures.ok
      (pushed _ _ _ _ _ _ c.loop-side.invariant.0 (step_right _ _ _ (sym c.next_side.ensures ∙ c.in-Some.is ∙ ap Some c.in-Right.is) c.index-right-0.is) c.in_ok-copy-in-Right.ensures),
  fits_right c.loop-side.left.now c.loop-side.right.now c.loop-side.invariant.1,
)

pub push-requires : goal.push-requires
push-requires c =
    bundle-next _ _ _ _ _ _ c.requires.bundle c.loop-side.invariant.0 (step_left _ _ _ (sym c.next_side.ensures ∙ c.in-Some.is ∙ ap Some c.in-Left.is) c.index-left-0.is) c.in_ok-copy-in-Left.ensures

pub push-requires-in-Right : goal.push-requires-in-Right
push-requires-in-Right c =
    bundle-next _ _ _ _ _ _ c.requires.bundle c.loop-side.invariant.0 (step_right _ _ _ (sym c.next_side.ensures ∙ c.in-Some.is ∙ ap Some c.in-Right.is) c.index-right-0.is) c.in_ok-copy-in-Right.ensures

pub push-requires-in-Both : goal.push-requires-in-Both
push-requires-in-Both c =
    bundle-next _ _ _ _ _ _ c.requires.bundle c.loop-side.invariant.0 (step_both _ _ _ _ (sym c.next_side.ensures ∙ c.in-Some.is ∙ ap Some c.in-Both.is) c.index-left-0-in-Both.is c.index-right-0-in-Both.is) c.in_ok-united-in-Both.ensures

pub united-requires : goal.united-requires
united-requires c =
    small_together c.loop-side.left.now c.loop-side.right.now _ _ (sym c.next_side.ensures ∙ c.in-Some.is ∙ ap Some c.in-Both.is) c.index-left-0-in-Both.is c.index-right-0-in-Both.is c.loop-side.invariant.1

pub loop-side-preserved : goal.loop-side-preserved
loop-side-preserved c = (
  rw c.in_ok-push-in-Both.ensures.ok
      (pushed _ _ _ _ _ _ c.loop-side.invariant.0 (step_both _ _ _ _ (sym c.next_side.ensures ∙ c.in-Some.is ∙ ap Some c.in-Both.is) c.index-left-0-in-Both.is c.index-right-0-in-Both.is) c.in_ok-united-in-Both.ensures),
  fits_right (tail c.loop-side.left.now) c.loop-side.right.now (fits_left c.loop-side.left.now c.loop-side.right.now c.loop-side.invariant.1),
)
