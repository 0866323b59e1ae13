use Rattle.std.proofs.Common.{All, take_all, subst}
use Rattle.std.proofs.lemmas.List.Elements.{All-more}
use Rattle.drf_role.specs.Name.{IsLabel}
use Rattle.drf_kinds.proofs.items.recall.Goals as goal

pub loop-label-preserved : goal.loop-label-preserved
loop-label-preserved c = All-more IsLabel _ _ _ c.loop-label-test.true c.loop-label.invariant (subst IsLabel c.label-item.is c.recall.ensures)

pub returns : goal.returns
returns c = subst (All IsLabel) (take_all _ _ c.loop-label-test.false) c.loop-label.invariant
