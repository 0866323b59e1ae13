use Rattle.std.proofs.Common.{◌≡◌, ◌-◌, [], ℕ, refl, sym, ap, subst, ◌∙◌, arith}
use Rattle.drf_bundle.proofs.theorems.QuantitiesLaws.{covers_from}
use Rattle.drf_tree.proofs.Names.{Sum}
use Rattle.drf_tree.proofs.change.Climb.{climb_above, climb_falls, climb_holds, climb_on, climb_start, climb_step, climb_was, leaf_other, marking_start, marking_step}
use Rattle.drf_tree.proofs.change.Dismiss.{IsLeastSum, dismissed_tree, is_emptied, is_gone, least_read}
use Rattle.drf_tree.proofs.sums.Move.{IsMoved, amounts_in, none}
use Rattle.drf_tree.proofs.shape.Slice.{same_read}
use Rattle.drf_tree.proofs.tree.Tree.dismiss.Goals.{After-replace-gone}
use Rattle.drf_tree.proofs.tree.Tree.dismiss.Goals as goal

pub loop-node-init : goal.loop-node-init
loop-node-init c =
    let old = c.args.self.now in
    let leaf = c.args.leaf in
    let gone : Sum = c.replace-gone.result in
    let left : Sum = record { held = []; count = 0; clients = 0; active = 0; weight = gone.weight } in
    let other = leaf_other old c.requires.shape leaf c.requires.live in
    let start = climb_start old old c.requires.shape leaf leaf (λ i. IsMoved (amounts_in gone) none) c.requires.live in
    let marking = marking_start old old c.requires.shape leaf leaf (λ i. IsMoved (amounts_in gone) none) in
    let taken : gone ≡ c.index_mut.result.now = c.replace-gone.ensures.value in
    let read : gone ≡ c.index.result.now =
    taken ∙ same_read old.sums.items leaf c.requires.least.sum c.index_mut.result.now c.requires.least.there c.index_mut.ensures.value
    ∙ sym (same_read old.sums.items leaf c.requires.least.sum c.index.result.now c.requires.least.there c.index.ensures) in
    let put : c.replace-gone.new.dest ≡ left =
    c.replace-gone.ensures.after ∙ c.of_none-nothing.ensures
    ∙ ap (λ (w : ℕ). record { held = []; count = 0; clients = 0; active = 0; weight = w }) (ap (λ (s : Sum). s.weight) (sym read)) in (
      climb_step old old c.requires.shape leaf leaf (λ i. IsMoved (amounts_in gone) none) start other _ c.parent-node.result
          c.index_mut.result.now c.replace-gone.new.dest c.parent-node.ensures c.index_mut.ensures.value
          (subst (λ (s : Sum). IsMoved (amounts_in gone) none s c.replace-gone.new.dest) taken
          (subst (λ (t : Sum). IsMoved (amounts_in gone) none gone t) (sym put) (is_emptied gone)))
          refl refl refl,
      marking_step old old c.requires.shape leaf leaf (λ i. IsMoved (amounts_in gone) none) start other marking _ c.parent-node.result
          c.parent-node.ensures c.mark.ensures.flags c.mark.ensures.spends,
    )

least_at : (c : After-replace-gone) → IsLeastSum c.args.self.now c.args.leaf c.replace-gone.result
least_at c = least_read _ _ c.requires.least _ _ c.replace-gone.ensures.value c.index_mut.ensures.value

pub lower-requires : goal.lower-requires
lower-requires c =
    let least = least_at (goal.at.lower-requires c).After-replace-gone in
    covers_from _ c.replace-gone.result.held c.recall.ensures
    (climb_holds _ _ c.requires.shape _ _ _ c.loop-node.invariant.0 c.loop-node-test.true _ least.held _ c.index_mut-sum.ensures.value)

pub overflow_sub-sum : goal.overflow_sub-sum
overflow_sub-sum c =
    let least = least_at (goal.at.overflow_sub-sum c).After-replace-gone in
    climb_holds _ _ c.requires.shape _ _ _ c.loop-node.invariant.0 c.loop-node-test.true _ least.count _ c.index_mut-sum.ensures.value

pub overflow_sub-sum-in-loop-node : goal.overflow_sub-sum-in-loop-node
overflow_sub-sum-in-loop-node c =
    let least = least_at (goal.at.overflow_sub-sum-in-loop-node c).After-replace-gone in
    climb_holds _ _ c.requires.shape _ _ _ c.loop-node.invariant.0 c.loop-node-test.true _ least.clients _ c.index_mut-sum.ensures.value

pub overflow_sub-sum-in-loop-node-2 : goal.overflow_sub-sum-in-loop-node-2
overflow_sub-sum-in-loop-node-2 c =
    let least = least_at (goal.at.overflow_sub-sum-in-loop-node-2 c).After-replace-gone in
    climb_holds _ _ c.requires.shape _ _ _ c.loop-node.invariant.0 c.loop-node-test.true _ least.active _ c.index_mut-sum.ensures.value

pub loop-node-smaller : goal.loop-node-smaller
loop-node-smaller c = climb_falls _ _ c.requires.shape _ _ _ c.loop-node.invariant.0 c.loop-node-test.true c.parent-node-in-loop-node.result c.parent-node-in-loop-node.ensures

pub loop-node-preserved : goal.loop-node-preserved
loop-node-preserved c =
    let so = c.loop-node.invariant.0 in
    let gone : Sum = c.replace-gone.result in
    let s : Sum = c.index_mut-sum.result.now in
    let t : Sum = record s { held = c.lower.new.self; count = s.count - gone.count; clients = s.clients - gone.clients; active = s.active - gone.active } in
    let least = least_at (goal.at.loop-node-preserved c).After-replace-gone in
    let above = climb_above _ _ c.requires.shape _ _ _ so c.loop-node-test.true _ c.parent-node-in-loop-node.ensures in
    let on = climb_on _ _ c.requires.shape _ _ _ so c.loop-node-test.true in
    let was = climb_was _ _ c.requires.shape _ _ _ so c.loop-node-test.true s c.index_mut-sum.ensures.value in (
      climb_step _ _ c.requires.shape _ _ _ so c.loop-node-test.true _ _ s t above c.index_mut-sum.ensures.value
          (is_gone gone s c.lower.new.self c.lower.ensures
          (least.held c.loop-node.node s on was) (least.count c.loop-node.node s on was) (least.clients c.loop-node.node s on was)
          (least.active c.loop-node.node s on was)) refl refl refl,
      marking_step _ _ c.requires.shape _ _ _ so c.loop-node-test.true c.loop-node.invariant.1
          _ _ above c.mark-in-loop-node.ensures.flags c.mark-in-loop-node.ensures.spends,
    )

pub returns-clause-tree : goal.returns-clause-tree
returns-clause-tree c content path tree at has =
    let least = least_at (goal.at.returns-clause-tree c).After-replace-gone in
    dismissed_tree content path c.args.self.now c.loop-node.self c.args.leaf c.loop-node.node c.replace-gone.result tree c.requires.live at least.there
    c.loop-node.invariant.0 c.loop-node.invariant.1 c.loop-node-test.false

pub returns-clause-spends : goal.returns-clause-spends
returns-clause-spends c = record { made = c.loop-node.invariant.1.made; work = omega (arith, c.loop-node.invariant.1.work) }
