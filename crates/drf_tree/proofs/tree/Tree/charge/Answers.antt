use Rattle.std.proofs.Common.{◌+◌, refl, arith}
use Rattle.drf_tree.proofs.Names.{Sum}
use Rattle.drf_tree.proofs.change.Climb.{climb_above, climb_falls, climb_holds, climb_start, climb_step, marking_start, marking_step}
use Rattle.drf_tree.proofs.change.Charge.{charged_tree, is_charged, of_charged}
use Rattle.drf_tree.proofs.sums.Move.{IsMoved, none}
use Rattle.drf_tree.proofs.tree.Tree.charge.Goals as goal

pub loop-node-init : goal.loop-node-init
loop-node-init c = (
  climb_start c.args.self.now c.args.self.now c.requires.shape c.args.leaf c.args.leaf
      (λ i. IsMoved none (of_charged c.args.quantities.now c.args.offers)) c.requires.room.live,
  marking_start c.args.self.now c.args.self.now c.requires.shape c.args.leaf c.args.leaf
      (λ i. IsMoved none (of_charged c.args.quantities.now c.args.offers)),
)

pub raise-requires-clause-named : goal.raise-requires-clause-named
raise-requires-clause-named c =
    climb_holds _ _ c.requires.shape _ _ _ c.loop-node.invariant.0 c.loop-node-test.true _ c.requires.named _ c.index_mut-sum.ensures.value

pub raise-requires-clause-fits : goal.raise-requires-clause-fits
raise-requires-clause-fits c =
    climb_holds _ _ c.requires.shape _ _ _ c.loop-node.invariant.0 c.loop-node-test.true _ c.requires.room.held _ c.index_mut-sum.ensures.value

pub overflow_add-sum : goal.overflow_add-sum
overflow_add-sum c =
    omega (arith, climb_holds _ _ c.requires.shape _ _ _ c.loop-node.invariant.0 c.loop-node-test.true _ c.requires.room.count _ c.index_mut-sum.ensures.value)

pub loop-node-smaller : goal.loop-node-smaller
loop-node-smaller c = climb_falls _ _ c.requires.shape _ _ _ c.loop-node.invariant.0 c.loop-node-test.true c.parent-node.result c.parent-node.ensures

pub loop-node-preserved : goal.loop-node-preserved
loop-node-preserved c =
    let so = c.loop-node.invariant.0 in
    let s : Sum = c.index_mut-sum.result.now in
    let t : Sum = record s { held = c.raise.new.self; count = s.count + c.args.offers } in
    let above = climb_above _ _ c.requires.shape _ _ _ so c.loop-node-test.true _ c.parent-node.ensures in (
      climb_step _ _ c.requires.shape _ _ _ so c.loop-node-test.true _ _ s t above c.index_mut-sum.ensures.value
          (is_charged c.args.quantities.now c.args.offers s c.raise.new.self c.recall.ensures c.raise.ensures) refl refl refl,
      marking_step _ _ c.requires.shape _ _ _ so c.loop-node-test.true c.loop-node.invariant.1 _ _ above c.mark.ensures.flags c.mark.ensures.spends,
    )

pub returns-clause-tree : goal.returns-clause-tree
returns-clause-tree c content path tree at has =
    charged_tree content path c.args.quantities.now c.args.offers c.args.self.now c.loop-node.self c.args.leaf c.loop-node.node
    tree at has c.loop-node.invariant.0 c.loop-node.invariant.1 c.loop-node-test.false

pub returns-clause-spends : goal.returns-clause-spends
returns-clause-spends c = record { made = c.loop-node.invariant.1.made; work = omega (arith, c.loop-node.invariant.1.work) }
