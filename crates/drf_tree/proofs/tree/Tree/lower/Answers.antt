use Rattle.std.proofs.Common.{◌-◌, refl, arith}
use Rattle.drf_bundle.proofs.theorems.QuantitiesLaws.{covers_from}
use Rattle.drf_tree.proofs.Names.{Sum}
use Rattle.drf_tree.proofs.change.Climb.{climb_above, climb_falls, climb_holds, climb_on, climb_start, climb_step, climb_was, marking_start, marking_step}
use Rattle.drf_tree.proofs.change.Lower.{is_lowered, lowered_tree, of_lowered}
use Rattle.drf_tree.proofs.sums.Move.{IsMoved, none}
use Rattle.drf_tree.proofs.tree.Tree.lower.Goals as goal

pub loop-node-init : goal.loop-node-init
loop-node-init c = (
  climb_start c.args.self.now c.args.self.now c.requires.shape c.args.leaf c.args.leaf
      (λ i. IsMoved (of_lowered c.args.quantities.now c.args.offers) none) c.requires.lowerable.live,
  marking_start c.args.self.now c.args.self.now c.requires.shape c.args.leaf c.args.leaf
      (λ i. IsMoved (of_lowered c.args.quantities.now c.args.offers) none),
)

pub lower-requires : goal.lower-requires
lower-requires c =
    covers_from _ c.args.quantities.now c.recall.ensures
    (climb_holds _ _ c.requires.shape _ _ _ c.loop-node.invariant.0 c.loop-node-test.true _ c.requires.lowerable.held _ c.index_mut-sum.ensures.value)

pub overflow_sub-sum : goal.overflow_sub-sum
overflow_sub-sum c =
    climb_holds _ _ c.requires.shape _ _ _ c.loop-node.invariant.0 c.loop-node-test.true _ c.requires.lowerable.count _ c.index_mut-sum.ensures.value

pub loop-node-smaller : goal.loop-node-smaller
loop-node-smaller c = climb_falls _ _ c.requires.shape _ _ _ c.loop-node.invariant.0 c.loop-node-test.true c.parent-node.result c.parent-node.ensures

pub loop-node-preserved : goal.loop-node-preserved
loop-node-preserved c =
    let so = c.loop-node.invariant.0 in
    let s : Sum = c.index_mut-sum.result.now in
    let t : Sum = record s { held = c.lower.new.self; count = s.count - c.args.offers } in
    let above = climb_above _ _ c.requires.shape _ _ _ so c.loop-node-test.true _ c.parent-node.ensures in
    let on = climb_on _ _ c.requires.shape _ _ _ so c.loop-node-test.true in
    let was = climb_was _ _ c.requires.shape _ _ _ so c.loop-node-test.true s c.index_mut-sum.ensures.value in (
      climb_step _ _ c.requires.shape _ _ _ so c.loop-node-test.true _ _ s t above c.index_mut-sum.ensures.value
          (is_lowered c.args.quantities.now c.args.offers s c.lower.new.self c.lower.ensures
          (c.requires.lowerable.held c.loop-node.node s on was) (c.requires.lowerable.count c.loop-node.node s on was)) refl refl refl,
      marking_step _ _ c.requires.shape _ _ _ so c.loop-node-test.true c.loop-node.invariant.1 _ _ above c.mark.ensures.flags c.mark.ensures.spends,
    )

pub returns-clause-tree : goal.returns-clause-tree
returns-clause-tree c content path tree at has can =
    lowered_tree content path c.args.quantities.now c.args.offers c.args.self.now c.loop-node.self c.args.leaf c.loop-node.node
    tree at has can c.loop-node.invariant.0 c.loop-node.invariant.1 c.loop-node-test.false

pub returns-clause-spends : goal.returns-clause-spends
returns-clause-spends c = record { made = c.loop-node.invariant.1.made; work = omega (arith, c.loop-node.invariant.1.work) }
