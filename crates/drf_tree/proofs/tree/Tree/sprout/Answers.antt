use Rattle.std.proofs.Common.{◌≡◌, List, refl, sym, ap, subst, ◌∙◌, arith, ◌<◌, ℕ, Err, Ok, OnErr, Result, length, slice_set}
use Rattle.drf_tree.proofs.Names.{Child, Place, IsShapeOf, IsWith, is_node, place_at}
use Rattle.drf_tree.proofs.shape.Node.{family_read, node_within}
use Rattle.drf_tree.proofs.growth.Tidy.{one_more}
use Rattle.drf_tree.proofs.growth.Sprout.{IsReady, counted_shape, counted_tree, kept_tree, ready_seen, sprout_tree}
use Rattle.drf_tree.proofs.tree.Tree.sprout.Goals.{In_ok-child}
use Rattle.drf_tree.proofs.tree.Tree.sprout.Goals as goal

-- the preconditions still hold after a number was found and a key was computed
ready_at : (c : In_ok-child) → IsReady c.first_child.new.self.places.items c.args.parent c.args.path
ready_at c =
    ready_seen c.args.self.now.places.items _ c.args.parent c.args.path (λ i. ap (λ ps. place_at ps.items i) c.in_ok-child.ensures.places ∙ c.in_ok-node.ensures.places i)
    (record { there = c.requires.parent; longer = c.requires.path; missing = c.requires.missing })

shape_at : (c : In_ok-child) → IsShapeOf c.first_child.new.self
shape_at c =
    let e = c.in_ok-child.ensures in
    counted_shape c.vacant.new.self c.first_child.new.self e.places e.sums e.families e.stale c.in_ok-node.ensures.shape

-- the parent has a family
below_at : (c : In_ok-child) → c.args.parent < length c.first_child.new.self.families.items
below_at c = omega (arith, node_within c.first_child.new.self (shape_at c) c.args.parent (ready_at c).there, (shape_at c).families_long)

pub returns-in_err-child-clause-tree : goal.returns-in_err-child-clause-tree
returns-in_err-child-clause-tree c content of weighs nobody =
    let e = c.in_err-child.ensures in
    let v = c.in_ok-node.ensures in
    counted_tree c.vacant.new.self c.first_child.new.self e.places e.sums e.families e.stale v.shape content (v.tree content of)

-- what holds in any case holds on failure
on_err : {T E : Type 0} (r : Result T E) (P : Type 0) → P → OnErr r P
on_err (Ok x) P p = tt
on_err (Err e) P p = p

-- if memory runs out for a child, the places are unchanged
pub returns-in_err-child-clause-err : goal.returns-in_err-child-clause-err
returns-in_err-child-clause-err c =
    let same : (i : ℕ) → place_at c.first_child.new.self.places.items i ≡ place_at c.args.self.now.places.items i =
    λ i. ap (λ ps. place_at ps.items i) c.in_err-child.ensures.places ∙ c.in_ok-node.ensures.places i in
    on_err _ _ same

pub returns-in_err-insert-clause-err : goal.returns-in_err-insert-clause-err
returns-in_err-insert-clause-err c =
    let same : (i : ℕ) → place_at c.first_child.new.self.places.items i ≡ place_at c.args.self.now.places.items i =
    λ i. ap (λ ps. place_at ps.items i) c.in_ok-child.ensures.places ∙ c.in_ok-node.ensures.places i in
    on_err _ _ same

pub index_mut-requires : goal.index_mut-requires
index_mut-requires c = omega (arith, below_at (goal.at.index_mut-requires c).In_ok-child)

pub returns-in_err-insert-clause-tree : goal.returns-in_err-insert-clause-tree
returns-in_err-insert-clause-tree c content of weighs nobody =
    let e = c.in_ok-child.ensures in
    let v = c.in_ok-node.ensures in
    let now = c.first_child.new.self in
    let b = (goal.at.returns-in_err-insert-clause-tree c).In_ok-child in
    kept_tree now _ c.args.parent c.insert.new.self (shape_at b) (below_at b)
    (c.in_err-insert.ensures.err ∙ sym (family_read now.families.items c.args.parent c.index_mut.result.now (below_at b) c.index_mut.ensures.value))
    refl refl refl refl content
    (counted_tree c.vacant.new.self now e.places e.sums e.families e.stale v.shape content (v.tree content of))

pub index_mut-requires-2 : goal.index_mut-requires-2
index_mut-requires-2 c =
    let e = c.in_ok-child.ensures in
    let v = c.in_ok-node.ensures in
    omega (arith, v.free.there, v.shape.sums_long, ap (λ ss. length ss.items) e.sums)

pub put-requires-clause-there : goal.put-requires-clause-there
put-requires-clause-there c = omega (arith, c.in_ok-node.ensures.free.there, ap (λ ps. length ps.items) c.in_ok-child.ensures.places)

pub put-requires-clause-first : goal.put-requires-clause-first
put-requires-clause-first c i below =
    ap (λ ps. is_node ps.items i) c.in_ok-child.ensures.places ∙ c.in_ok-node.ensures.first i below

pub returns-clause-tree : goal.returns-clause-tree
returns-clause-tree c content of weighs nobody =
    let e = c.in_ok-child.ensures in
    let v = c.in_ok-node.ensures in
    let now = c.first_child.new.self in
    let parent = c.args.parent in
    let node = c.in_ok-node.node in
    let child : Child = c.in_ok-child.child in
    let place : Place = record { path = c.args.path; parent = parent; client = c.args.client } in
    let b = (goal.at.returns-clause-tree c).In_ok-child in
    let with =
    subst (λ (cs : List Child). IsWith child cs c.insert.new.self.children.items)
    (sym (family_read now.families.items parent c.index_mut.result.now (below_at b) c.index_mut.ensures.value)) c.in_ok-insert.ensures.ok in
    sprout_tree now _ (shape_at b) node parent place child c.insert.new.self c.args.weight
    (omega (arith, v.free.there, ap (λ ps. length ps.items) e.places)) (ap (λ ps. is_node ps.items node) e.places ∙ v.free.free)
    (ready_at b) c.requires.right c.requires.client c.requires.other refl e.node e.key with c.put.ensures refl refl
    (ap (slice_set now.sums.items node) c.of_none.ensures) content
    (counted_tree c.vacant.new.self now e.places e.sums e.families e.stale v.shape content (v.tree content of))
    weighs nobody

pub returns-clause-one : goal.returns-clause-one
returns-clause-one c =
    let e = c.in_ok-child.ensures in
    let v = c.in_ok-node.ensures in
    let place : Place = record { path = c.args.path; parent = c.args.parent; client = c.args.client } in
    one_more c.args.self.now.places.items c.first_child.new.self.places.items _ c.in_ok-node.node place
    (λ i. ap (λ ps. place_at ps.items i) e.places ∙ v.places i) (omega (arith, v.free.there, ap (λ ps. length ps.items) e.places)) c.put.ensures
