use Rattle.std.proofs.Common.{Some, sym, ap, ◌∙◌}
use Rattle.drf_kinds.proofs.Names.{unmet_left, unmet_right, unmet_both, met_left, met_both}
use Rattle.drf_kinds.proofs.merge.meets.Goals as goal

pub returns-then-not-inside-clause-found : goal.returns-then-not-inside-clause-found
returns-then-not-inside-clause-found c =
    met_left _ _ _ _ _ c.loop-side.invariant c.if-not-inside.true (sym c.next_side.ensures ∙ c.in-Some.is ∙ ap Some c.in-Left.is)

pub loop-side-preserved-in-Left : goal.loop-side-preserved-in-Left
loop-side-preserved-in-Left c =
    unmet_left _ _ _ _ _ c.loop-side.invariant c.if-not-inside.false (sym c.next_side.ensures ∙ c.in-Some.is ∙ ap Some c.in-Left.is)

pub loop-side-preserved-in-Right : goal.loop-side-preserved-in-Right
loop-side-preserved-in-Right c = unmet_right _ _ _ _ _ c.loop-side.invariant (sym c.next_side.ensures ∙ c.in-Some.is ∙ ap Some c.in-Right.is)

pub returns-then-inside-clause-found : goal.returns-then-inside-clause-found
returns-then-inside-clause-found c =
    met_both _ _ _ _ _ c.loop-side.invariant c.if-inside.true (sym c.next_side.ensures ∙ c.in-Some.is ∙ ap Some c.in-Both.is)

pub loop-side-preserved : goal.loop-side-preserved
loop-side-preserved c =
    unmet_both _ _ _ _ _ c.loop-side.invariant c.if-inside.false (sym c.next_side.ensures ∙ c.in-Some.is ∙ ap Some c.in-Both.is)
