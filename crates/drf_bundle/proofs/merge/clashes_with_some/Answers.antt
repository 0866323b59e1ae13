use Rattle.std.proofs.Common.{◌∙◌, sym}
use Rattle.std.proofs.lemmas.Bool.{not-true, not-false}
use Rattle.drf_bundle.proofs.MergeLemmas.{past_name, found_here, past_one}
use Rattle.drf_bundle.proofs.merge.clashes_with_some.Goals as goal

pub returns-then-ne : goal.returns-then-ne
returns-then-ne c = let so_far = c.loop-other.invariant in
    past_name c.args.clash c.args.resource.now c.args.others.now c.loop-other.other-index c.other-item.result c.loop-other-test.true c.other-item.is so_far.same so_far.in_order so_far.not_before
    (not-true _ (sym c.ne.ensures ∙ c.if-ne.true))

pub returns-then-clashes_with : goal.returns-then-clashes_with
returns-then-clashes_with c = let so_far = c.loop-other.invariant in
    found_here c.args.clash c.args.resource.now c.args.others.now c.loop-other.other-index c.other-item.result c.loop-other-test.true c.other-item.is so_far.same so_far.in_order so_far.not_before
    (not-false _ (sym c.ne.ensures ∙ c.if-ne.false)) (sym c.clashes_with.ensures ∙ c.if-clashes_with.true)

pub loop-other-preserved : goal.loop-other-preserved
loop-other-preserved c =
    let so_far = c.loop-other.invariant in
    let next = past_one c.args.clash c.args.resource.now c.args.others.now c.loop-other.other-index c.other-item.result c.loop-other-test.true c.other-item.is so_far.same so_far.in_order so_far.not_before (sym c.clashes_with.ensures ∙ c.if-clashes_with.false) in
    record { same = next.same; in_order = next.in_order; not_before = next.not_before }
