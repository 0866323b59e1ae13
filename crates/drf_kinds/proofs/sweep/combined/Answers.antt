use Rattle.drf_kinds.specs.Sets.{is_kept}
use Rattle.drf_kinds.proofs.Steps.{passes_both}
use Rattle.drf_kinds.proofs.Found.{none_kept, found_start, found_on, found_begin, found_end}
use Rattle.drf_kinds.proofs.sweep.combined.Goals as goal

pub loop-place-init : goal.loop-place-init
loop-place-init c =
    rw (c.new-left.ensures, c.new-right.ensures, c.new-found.ensures.items) (found_start (is_kept c.args.united) c.args.left.now c.args.right.now (none_kept c.args.united) c.requires.left c.requires.right)

pub loop-place-preserved-then-inside-was_inside : goal.loop-place-preserved-then-inside-was_inside
loop-place-preserved-then-inside-was_inside c =
    let known = c.loop-place.invariant in
    let e = c.in-Some.ensures in
    let both = passes_both _ _ _ _ _ _ known.left_from known.right_from e.place e.some e.left e.right in
    found_on (is_kept c.args.united) _ _ _ _ _ _ _ _ _ _ _ known both (cc) c.if-inside-was_inside.true

pub loop-place-preserved-then-inside : goal.loop-place-preserved-then-inside
loop-place-preserved-then-inside c =
    let known = c.loop-place.invariant in
    let e = c.in-Some.ensures in
    let both = passes_both _ _ _ _ _ _ known.left_from known.right_from e.place e.some e.left e.right in
    found_begin (is_kept c.args.united) _ _ _ _ _ _ _ _ _ _ _ known both (cc) c.if-inside-was_inside.false c.if-inside.true

pub loop-place-preserved : goal.loop-place-preserved
loop-place-preserved c =
    let known = c.loop-place.invariant in
    let e = c.in-Some.ensures in
    let both = passes_both _ _ _ _ _ _ known.left_from known.right_from e.place e.some e.left e.right in
    rw c.in_ok-push.ensures.ok (found_end (is_kept c.args.united) _ _ _ _ _ _ _ _ _ _ _ known both (cc) c.if-inside-was_inside.false c.if-inside.false)
