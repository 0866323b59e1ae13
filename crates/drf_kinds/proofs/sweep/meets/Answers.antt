use Rattle.std.proofs.Common.{◌≡◌, true, false, arith}
use Rattle.std.proofs.lemmas.Grind.{common_steps}
use Rattle.drf_kinds.specs.Sets.{is_met}
use Rattle.drf_kinds.proofs.Steps.{passes_both, unmet_start, unmet_step, met_at}
use Rattle.drf_kinds.proofs.sweep.meets.Goals.{else-is_inside-via-then-is_inside+else-is_inside-inside, else-is_inside-via-else-is_inside}
use Rattle.drf_kinds.proofs.sweep.meets.Goals as goal

pub loop-place-init : goal.loop-place-init
loop-place-init c =
    rw (c.new-left.ensures, c.new-right.ensures) (unmet_start c.args.inside c.args.left.now c.args.right.now c.requires.left c.requires.right)

pub returns-then-is_inside-inside-clause-found : goal.returns-then-is_inside-inside-clause-found
returns-then-is_inside-inside-clause-found c =
    let unmet = c.loop-place.invariant in
    let e = c.in-Some.ensures in
    let met : is_met c.args.inside c.pass_both.new.left.inside c.pass_both.new.right.inside ≡ true = grind (arith, common_steps) in
    let both = passes_both 0 _ _ _ _ _ unmet.left_from unmet.right_from e.place e.some e.left e.right in
    (c.in-Some._place, met_at _ _ _ _ _ _ _ _ _ unmet both met)

pub loop-place-preserved : goal.loop-place-preserved
loop-place-preserved c =
    let unmet = c.loop-place.invariant in
    let e = c.in-Some.ensures in
    let out : is_met c.args.inside c.pass_both.new.left.inside c.pass_both.new.right.inside ≡ false =
    elim c.else-is_inside.branch [
      | else-is_inside-via-then-is_inside+else-is_inside-inside w ↦ grind (arith, common_steps)
      | else-is_inside-via-else-is_inside w ↦ grind (arith, common_steps)
    ] in
    let both = passes_both 0 _ _ _ _ _ unmet.left_from unmet.right_from e.place e.some e.left e.right in
    unmet_step _ _ _ _ _ _ _ _ _ unmet both out
