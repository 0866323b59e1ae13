use Rattle.std.proofs.Common.{refl}
use Rattle.drf_tree.proofs.Names.{Sum}
use Rattle.drf_tree.proofs.change.Climb.{climb_above, climb_falls, climb_start, climb_step, climb_sum}
use Rattle.drf_tree.proofs.change.Label.{IsNamed, are_same, few_end, named_end, same_held, same_set, same_tree}
use Rattle.drf_tree.proofs.tree.Tree.name_labels.Goals as goal

pub loop-node-init : goal.loop-node-init
loop-node-init c = record {
  climb =
      climb_start c.args.self.now c.args.self.now c.requires.shape c.args.leaf c.args.leaf
      (IsNamed c.args.quantities.now) c.requires.live;
  same = are_same c.args.self.now.sums.items;
  marks = refl;
}

pub returns-in_err-name_all-clause-tree : goal.returns-in_err-name_all-clause-tree
returns-in_err-name_all-clause-tree c content tree =
    let so = c.loop-node.invariant in
    let s : Sum = c.index_mut.result.now in
    let at = climb_sum _ _ c.requires.shape _ _ _ so.climb c.loop-node-test.true s c.index_mut.ensures.value in
    same_tree content c.args.self.now _ tree so.climb.places so.climb.families so.marks
    (same_set c.args.self.now.sums.items c.loop-node.self.sums.items c.loop-node.node s (record s { held = c.name_all.new.held }) so.same at
    (same_held s c.name_all.new.held c.name_all.ensures.same))

pub loop-node-smaller : goal.loop-node-smaller
loop-node-smaller c =
    climb_falls _ _ c.requires.shape _ _ _ c.loop-node.invariant.climb c.loop-node-test.true c.parent-node.result c.parent-node.ensures

pub loop-node-preserved : goal.loop-node-preserved
loop-node-preserved c =
    let so = c.loop-node.invariant in
    let s : Sum = c.index_mut.result.now in
    let t : Sum = record s { held = c.name_all.new.held } in
    let above = climb_above _ _ c.requires.shape _ _ _ so.climb c.loop-node-test.true _ c.parent-node.ensures in
    let at = climb_sum _ _ c.requires.shape _ _ _ so.climb c.loop-node-test.true s c.index_mut.ensures.value in
    record {
      climb =
          climb_step _ _ c.requires.shape _ _ _ so.climb c.loop-node-test.true _ _ s t above c.index_mut.ensures.value
          (c.in_ok-name_all.ensures.named, c.name_all.ensures.few) refl refl refl;
      same =
          same_set c.args.self.now.sums.items c.loop-node.self.sums.items c.loop-node.node s t so.same at
          (same_held s c.name_all.new.held c.name_all.ensures.same);
      marks = so.marks;
    }

pub returns-clause-tree : goal.returns-clause-tree
returns-clause-tree c content tree =
    let so = c.loop-node.invariant in
    same_tree content c.args.self.now c.loop-node.self tree so.climb.places so.climb.families so.marks so.same

pub returns-clause-named : goal.returns-clause-named
returns-clause-named c =
    named_end c.args.self.now c.loop-node.self c.requires.shape c.args.leaf c.loop-node.node c.args.quantities.now
    c.loop-node.invariant.climb c.loop-node-test.false

pub returns-clause-few : goal.returns-clause-few
returns-clause-few c =
    few_end c.args.self.now c.loop-node.self c.requires.shape c.args.leaf c.loop-node.node c.args.quantities.now
    c.loop-node.invariant.climb c.loop-node-test.false
