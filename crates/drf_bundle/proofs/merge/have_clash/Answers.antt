use Rattle.std.proofs.Common.{Some, sym, ap, ◌∙◌}
use Rattle.drf_bundle.proofs.MergeLemmas.{walked_left, walked_right, walked_both, clash_here, none_left, names_first}
use Rattle.drf_bundle.proofs.merge.have_clash.Goals as goal

pub loop-ordering-preserved-in-Less : goal.loop-ordering-preserved-in-Less
loop-ordering-preserved-in-Less c = walked_left _ _ _ _ _ c.loop-ordering.invariant (sym c.compare_names.ensures ∙ c.in-Some.is ∙ ap Some c.in-Less.is)

pub loop-ordering-preserved-in-Greater : goal.loop-ordering-preserved-in-Greater
loop-ordering-preserved-in-Greater c = walked_right _ _ _ _ _ c.loop-ordering.invariant (sym c.compare_names.ensures ∙ c.in-Some.is ∙ ap Some c.in-Greater.is)

pub clashes_with_some-requires-clause-not_before : goal.clashes_with_some-requires-clause-not_before
clashes_with_some-requires-clause-not_before c =
    names_first c.loop-ordering.left.now c.loop-ordering.right.now c.index-left-0.result (sym c.compare_names.ensures ∙ c.in-Some.is ∙ ap Some c.in-Equal.is) c.index-left-0.is c.loop-ordering.invariant.right

pub returns-then-clashes_with_some : goal.returns-then-clashes_with_some
returns-then-clashes_with_some c =
    clash_here c.args.clash c.loop-ordering.left.now c.loop-ordering.right.now c.args.left.now c.args.right.now c.loop-ordering.invariant c.index-left-0.result (sym c.compare_names.ensures ∙ c.in-Some.is ∙ ap Some c.in-Equal.is) c.index-left-0.is
    (sym c.clashes_with_some.ensures ∙ c.if-clashes_with_some.true)

pub loop-ordering-preserved : goal.loop-ordering-preserved
loop-ordering-preserved c =
    walked_both c.args.clash c.loop-ordering.left.now c.loop-ordering.right.now c.args.left.now c.args.right.now c.loop-ordering.invariant c.index-left-0.result (sym c.compare_names.ensures ∙ c.in-Some.is ∙ ap Some c.in-Equal.is) c.index-left-0.is
    (sym c.clashes_with_some.ensures ∙ c.if-clashes_with_some.false)

pub returns : goal.returns
returns c = none_left c.args.clash c.loop-ordering.left.now c.loop-ordering.right.now c.args.left.now c.args.right.now c.loop-ordering.invariant (sym c.compare_names.ensures ∙ c.in_default.is)
