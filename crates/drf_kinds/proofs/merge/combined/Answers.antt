use Rattle.std.proofs.Common.{Some, sym, ap, ◌∙◌}
use Rattle.drf_kinds.proofs.Names.{found_start, found_left, found_right, found_both, found_past, found_shared}
use Rattle.drf_kinds.proofs.merge.combined.Goals.{then-united+in_ok-copy-in-Right+in_ok-push-in-Right, else-united, then-not-united, else-not-united}
use Rattle.drf_kinds.proofs.merge.combined.Goals as goal

pub loop-side-init : goal.loop-side-init
loop-side-init c = rw c.new-found.ensures.items (found_start c.args.united c.args.left.now c.args.right.now c.requires.left c.requires.right)

pub loop-side-preserved-in-Left : goal.loop-side-preserved-in-Left
loop-side-preserved-in-Left c =
    rw c.in_ok-push-in-Left.ensures.items
    (found_left _ _ _ _ _ _ _ _ c.loop-side.invariant (sym c.next_side.ensures ∙ c.in-Some.is ∙ ap Some c.in-Left.is) c.in_ok-copy-in-Left.ensures c.index-left-0.is)

pub loop-side-preserved-in-Right : goal.loop-side-preserved-in-Right
loop-side-preserved-in-Right c =
    let right = sym c.next_side.ensures ∙ c.in-Some.is ∙ ap Some c.in-Right.is in
    elim c.if-united.branch [
      | then-united+in_ok-copy-in-Right+in_ok-push-in-Right w ↦ rw (w.found-is, w.in_ok-push-in-Right.ensures.items) (found_right _ _ _ _ _ _ _ _ c.loop-side.invariant w.if-united.true right w.in_ok-copy-in-Right.ensures w.index-right-0.is)
      | else-united w ↦ rw w.found-is (found_past _ _ _ _ _ _ c.loop-side.invariant w.if-united.false right)
    ]

pub loop-side-preserved : goal.loop-side-preserved
loop-side-preserved c =
    let both = sym c.next_side.ensures ∙ c.in-Some.is ∙ ap Some c.in-Both.is in
    elim c.if-not-united.branch [
      | then-not-united w ↦ rw w.left-is (found_both _ _ _ _ _ _ c.loop-side.invariant w.if-not-united.true both)
      | else-not-united w ↦ rw w.left-is (found_shared _ _ _ _ _ _ c.loop-side.invariant w.if-not-united.false both)
    ]
