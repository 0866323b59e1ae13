use Rattle.std.specs.Vec.{with_item}
use Rattle.std.proofs.Common.{◌≡◌, refl, sym, subst, arith, true, List, ℕ, slice_index_or}
use Rattle.drf_tree.proofs.Names.{Child, Family, IsGone, Tree, IsShapeOf, children_at, is_live, parent_at}
use Rattle.drf_tree.proofs.growth.Bare.{wither_shape, wither_tree}
use Rattle.drf_tree.proofs.shape.Node.{family_read, live_within, node_within}
use Rattle.drf_tree.proofs.tree.Tree.wither.Goals as goal

pub index_mut-requires : goal.index_mut-requires
index_mut-requires c =
    let t = c.args.self.now in
    omega (
      arith,
      node_within t c.requires.shape (parent_at t.places.items c.args.node) (c.requires.shape.kept c.args.node c.requires.node).0,
      c.requires.shape.families_long,
      c.parent-parent.ensures,
    )

pub free-requires : goal.free-requires
free-requires c = live_within c.args.self.now.places.items c.args.node c.requires.node

-- the family that was read is the one with the node
family_is : (t : Tree) → IsShapeOf t → (node parent : ℕ) (f : Family) → is_live t.places.items node ≡ true
    → parent ≡ parent_at t.places.items node → f ≡ slice_index_or t.families.items parent f
    → children_at t.families.items parent ≡ f.children.items
family_is t shape node parent f live is at =
    family_read t.families.items parent f
    (omega (arith, node_within t shape (parent_at t.places.items node) (shape.kept node live).0, shape.families_long, is)) at

pub returns-clause-shape : goal.returns-clause-shape
returns-clause-shape c =
    let t = c.args.self.now in
    let new : Tree = record {
      places = c.free.new.self;
      sums = t.sums;
      families = with_item t.families c.parent-parent.result c.remove.new.self;
      marks = c.forget.new.self;
    } in
    wither_shape t new c.requires.shape c.args.node c.parent-parent.result c.remove.new.self c.requires.node c.requires.bare
    c.parent-parent.ensures
    (subst (λ (cs : List Child). IsGone c.args.node cs c.remove.new.self.children.items)
    (sym (family_is t c.requires.shape c.args.node c.parent-parent.result c.index_mut.result.now c.requires.node c.parent-parent.ensures c.index_mut.ensures.value))
    c.remove.ensures)
    c.free.ensures refl (λ i. (c.forget.ensures.flags i).stale) refl

pub returns-clause-tree : goal.returns-clause-tree
returns-clause-tree c content of =
    let t = c.args.self.now in
    wither_tree t _ c.requires.shape c.args.node c.parent-parent.result c.remove.new.self c.requires.node c.requires.bare
    c.parent-parent.ensures
    (subst (λ (cs : List Child). IsGone c.args.node cs c.remove.new.self.children.items)
    (sym (family_is t c.requires.shape c.args.node c.parent-parent.result c.index_mut.result.now c.requires.node c.parent-parent.ensures c.index_mut.ensures.value))
    c.remove.ensures)
    c.free.ensures refl (λ i. (c.forget.ensures.flags i).stale) refl content of
