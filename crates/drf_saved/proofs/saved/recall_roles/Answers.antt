use Rattle.std.proofs.Common.{All, take_all, subst}
use Rattle.std.proofs.lemmas.List.Elements.{All-more, recursion_from_All}
use Rattle.drf_role.specs.Role.{IsRole}
use Rattle.drf_bundle.proofs.ListLaws.{each_map}
use Rattle.drf_rows.specs.declared.rows.ClientRow.{ClientRow}
use Rattle.drf_saved.proofs.saved.recall_roles.Goals as goal

pub loop-client-preserved : goal.loop-client-preserved
loop-client-preserved c =
    All-more (λ (x : ClientRow). IsRole x.role) _ _ _ c.loop-client-test.true c.loop-client.invariant
    (subst (λ (x : ClientRow). IsRole x.role) c.client-item.is c.recall.ensures.right)

pub returns : goal.returns
returns c =
    each_map IsRole (λ (x : ClientRow). x.role) c.args.clients.now
    (recursion_from_All (λ (x : ClientRow). IsRole x.role) _
    (subst (All (λ (x : ClientRow). IsRole x.role)) (take_all _ _ c.loop-client-test.false) c.loop-client.invariant))
