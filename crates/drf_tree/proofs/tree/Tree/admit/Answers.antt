use Rattle.std.proofs.Common.{◌+◌, refl, arith}
use Rattle.drf_tree.proofs.Names.{Sum}
use Rattle.drf_tree.proofs.change.Climb.{climb_above, climb_falls, climb_holds, climb_start, climb_step}
use Rattle.drf_tree.proofs.sums.Move.{IsMoved, none, of_newcomer}
use Rattle.drf_tree.proofs.change.Admit.{admitted, is_admitted}
use Rattle.drf_tree.proofs.tree.Tree.admit.Goals as goal

pub loop-node-init : goal.loop-node-init
loop-node-init c =
    (climb_start c.args.self.now c.args.self.now c.requires.shape c.args.leaf c.args.leaf (λ i. IsMoved none of_newcomer) c.requires.live, refl)

pub overflow_add-sum : goal.overflow_add-sum
overflow_add-sum c =
    omega (arith, (climb_holds _ _ c.requires.shape _ _ _ c.loop-node.invariant.0 c.loop-node-test.true _ c.requires.fits _ c.index_mut-sum.ensures.value).0)

pub overflow_add-sum-in-loop-node : goal.overflow_add-sum-in-loop-node
overflow_add-sum-in-loop-node c =
    omega (arith, (climb_holds _ _ c.requires.shape _ _ _ c.loop-node.invariant.0 c.loop-node-test.true _ c.requires.fits _ c.index_mut-sum.ensures.value).1)

pub loop-node-smaller : goal.loop-node-smaller
loop-node-smaller c = climb_falls _ _ c.requires.shape _ _ _ c.loop-node.invariant.0 c.loop-node-test.true c.parent-node.result c.parent-node.ensures

pub loop-node-preserved : goal.loop-node-preserved
loop-node-preserved c =
    let so = c.loop-node.invariant.0 in
    let s : Sum = c.index_mut-sum.result.now in
    let t : Sum = record s { clients = s.clients + 1; active = s.active + 1 } in
    let above = climb_above _ _ c.requires.shape _ _ _ so c.loop-node-test.true _ c.parent-node.ensures in (
      climb_step _ _ c.requires.shape _ _ _ so c.loop-node-test.true _ _ s t above c.index_mut-sum.ensures.value (is_admitted s) refl refl refl,
      c.loop-node.invariant.1,
    )

pub returns-clause-tree : goal.returns-clause-tree
returns-clause-tree c content path tree at none =
    let so = c.loop-node.invariant.0 in
    admitted content path c.args.self.now c.loop-node.self c.args.leaf c.loop-node.node tree c.requires.live at none so c.loop-node.invariant.1 c.loop-node-test.false
