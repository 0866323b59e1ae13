use Rattle.std.proofs.Common.{All, take_all, subst}
use Rattle.std.proofs.lemmas.List.Elements.{All-more, recursion_from_All}
use Rattle.drf_role.specs.Role.{IsRole}
use Rattle.drf_tables.proofs.roles.recall_roles.Goals as goal

pub loop-role-preserved : goal.loop-role-preserved
loop-role-preserved c =
    All-more IsRole _ _ _ c.loop-role-test.true c.loop-role.invariant
    (subst IsRole c.role-item.is c.recall.ensures.right)

pub returns : goal.returns
returns c =
    recursion_from_All IsRole _ (subst (All IsRole) (take_all _ _ c.loop-role-test.false) c.loop-role.invariant)
