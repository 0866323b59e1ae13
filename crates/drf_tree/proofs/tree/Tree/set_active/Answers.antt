use Rattle.std.proofs.Common.{◌≡◌, ◌≤◌, ◌+◌, ◌-◌, Bool, true, false, cond, refl, ap, ◌∙◌, arith}
use mir.Val.{bool_byte}
use Rattle.drf_tree.proofs.Names.{Sum}
use Rattle.drf_tree.proofs.change.Active.{activated_tree, is_activated, of_active}
use Rattle.drf_tree.proofs.change.Climb.{climb_above, climb_falls, climb_holds, climb_start, climb_step}
use Rattle.drf_tree.proofs.sums.Move.{IsMoved}
use Rattle.drf_tree.proofs.shape.Slice.{same_read}
use Rattle.drf_tree.proofs.tree.Tree.set_active.Goals.{After-index}
use Rattle.drf_tree.proofs.tree.Tree.set_active.Goals as goal

pub loop-node-init : goal.loop-node-init
loop-node-init c = (
  climb_start c.args.self.now c.args.self.now c.requires.shape c.args.leaf c.args.leaf
      (λ i. IsMoved (of_active c.index.result.now.active) (of_active c.from-now.result)) c.requires.live,
  refl,
)

same_at : (c : After-index) → c.index.result.now ≡ c.requires.least.sum
same_at c = same_read c.args.self.now.sums.items _ _ _ c.requires.least.there c.index.ensures

pub overflow_sub-sum : goal.overflow_sub-sum
overflow_sub-sum c =
    let same = same_at (goal.at.overflow_sub-sum c).After-index in
    let least = climb_holds _ _ c.requires.shape _ _ _ c.loop-node.invariant.0 c.loop-node-test.true _ c.requires.least.active _ c.index_mut-sum.ensures.value in
    omega (arith, least, ap (λ (x : Sum). x.active) same)

byte_is : (b : Bool) → bool_byte b ≡ cond b 1 0
byte_is true = refl
byte_is false = refl

at_most_one : (b : Bool) → cond b 1 0 ≤ 1
at_most_one true = omega arith
at_most_one false = omega arith

pub overflow_add-sum : goal.overflow_add-sum
overflow_add-sum c =
    let fits = climb_holds _ _ c.requires.shape _ _ _ c.loop-node.invariant.0 c.loop-node-test.true _ c.requires.fits _ c.index_mut-sum.ensures.value in
    let now : c.from-now.result ≡ cond c.args.active 1 0 = c.from-now.ensures ∙ byte_is c.args.active in
    let most : cond c.args.active 1 0 ≤ 1 = at_most_one c.args.active in
    omega (arith, fits, now, most)

pub loop-node-smaller : goal.loop-node-smaller
loop-node-smaller c = climb_falls _ _ c.requires.shape _ _ _ c.loop-node.invariant.0 c.loop-node-test.true c.parent-node.result c.parent-node.ensures

pub loop-node-preserved : goal.loop-node-preserved
loop-node-preserved c =
    let so = c.loop-node.invariant.0 in
    let s : Sum = c.index_mut-sum.result.now in
    let t : Sum = record s { active = s.active - c.index.result.now.active + c.from-now.result } in
    let same = same_at (goal.at.loop-node-preserved c).After-index in
    let least = climb_holds _ _ c.requires.shape _ _ _ c.loop-node.invariant.0 c.loop-node-test.true _ c.requires.least.active s c.index_mut-sum.ensures.value in
    let within : c.index.result.now.active ≤ s.active = omega (arith, least, ap (λ (x : Sum). x.active) same) in
    let above = climb_above _ _ c.requires.shape _ _ _ so c.loop-node-test.true _ c.parent-node.ensures in (
      climb_step _ _ c.requires.shape _ _ _ so c.loop-node-test.true _ _ s t above c.index_mut-sum.ensures.value
          (is_activated c.index.result.now.active c.from-now.result s within) refl refl refl,
      c.loop-node.invariant.1,
    )

pub returns-clause-tree : goal.returns-clause-tree
returns-clause-tree c content path tree at has =
    let same = same_at (goal.at.returns-clause-tree c).After-index in
    activated_tree content path c.args.active c.from-now.result c.index.result.now.active c.args.self.now c.loop-node.self c.args.leaf c.loop-node.node
    c.requires.least.sum tree c.requires.live at has c.requires.least.there (ap (λ (x : Sum). x.active) same) (c.from-now.ensures ∙ byte_is c.args.active)
    c.loop-node.invariant.0 c.loop-node.invariant.1 c.loop-node-test.false
