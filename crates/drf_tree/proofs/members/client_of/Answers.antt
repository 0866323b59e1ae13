use Rattle.std.proofs.Common.{ap, arith, subst, sym, ◌∙◌, Some}
use Rattle.drf_role.specs.Path.{IsClientPath, Path}
use Rattle.drf_tree.proofs.shape.Find.{take_whole}
use Rattle.drf_tree.proofs.growth.Grow.{prefix_no_client}
use Rattle.drf_tree.proofs.members.client_of.Goals as goal

pub returns-then-len-clause-client : goal.returns-then-len-clause-client
returns-then-len-clause-client c client =
    absurd (prefix_no_client c.args.path.now c.args.len c.len.ensures.right (omega (arith, c.if-len.true, c.len.ensures.len)) client)

pub returns-clause-client : goal.returns-clause-client
returns-clause-client c client =
    ap (λ (p : Path). Some p)
    (c.in_ok-copy.ensures
    ∙ sym (take_whole c.args.path.now c.args.len (omega (arith, c.if-len.false, c.len.ensures.len))))

pub returns-clause-only : goal.returns-clause-only
returns-clause-only c =
    let whole = take_whole c.args.path.now c.args.len (omega (arith, c.if-len.false, c.len.ensures.len)) in
    (c.in_ok-copy.ensures ∙ sym whole, subst IsClientPath (sym whole) c.len.ensures.right)
