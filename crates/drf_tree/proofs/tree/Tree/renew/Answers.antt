use Rattle.std.proofs.Common.{ap, arith, refl, subst, sym, ◌∙◌, ◌≡◌, ◌<◌, ℕ, Bool, List, length, slice_index_or, slice_set, true}
use Rattle.std.proofs.lemmas.Option.{slice_get_read}
use Rattle.drf_tree.proofs.Names.{Entry, Content, ledger_content, Child, Sum, Tree, IsShapeOf, IsRenewed, children_at, is_live, parent_at, path_at, AreRight, AreSums, IsShape, IsSumOf}
use Rattle.drf_tree.proofs.shape.Node.{family_read, live_within, node_within}
use Rattle.drf_tree.proofs.keys.Renew.{IsRepaired, can_key, ledger_weighs, renewed}
use Rattle.drf_tree.proofs.tree.Tree.renew.Goals as goal

-- the sum that was read is that of the node
sum_read : (content : Content) (tree : Tree) → IsShapeOf tree → AreSums content tree.places.items tree.sums.items → (node : ℕ) (sum : Sum)
    → is_live tree.places.items node ≡ true → sum ≡ slice_index_or tree.sums.items node sum
    → IsSumOf content (path_at tree.places.items node) sum
sum_read content tree shape sums node sum live at =
    sums node sum live
    (slice_get_read tree.sums.items (length tree.sums.items) node sum refl
    (omega (arith, live_within tree.places.items node live, shape.sums_long)) at)

-- the parent of a node has a family
parent_within : (tree : Tree) → IsShapeOf tree → (node parent : ℕ) → is_live tree.places.items node ≡ true
    → parent ≡ parent_at tree.places.items node → parent < length tree.families.items
parent_within tree shape node parent live is =
    omega (
      arith,
      node_within tree shape (parent_at tree.places.items node) (shape.kept node live).0,
      shape.families_long,
      is,
    )

pub renew-requires-clause-key : goal.renew-requires-clause-key
renew-requires-clause-key c =
    let content = ledger_content c.args.ledger.now in
    let sum = c.index.result.now in
    let of = sum_read content c.args.self.now c.requires.tree.shape c.requires.tree.sums c.args.node sum c.requires.live c.index.ensures in
    rw c.total.ensures (can_key c.args.ledger.now (path_at c.args.self.now.places.items c.args.node) sum c.requires.sound of)

pub returns-clause-tree : goal.returns-clause-tree
returns-clause-tree c =
    let content = ledger_content c.args.ledger.now in
    let tree = c.args.self.now in
    let of = c.requires.tree in
    let families = tree.families.items in
    let sum = c.index.result.now in
    let parent = c.parent-parent.result in
    let new = c.renew.new.self in
    let old_is =
    sym (family_read families parent c.index_mut-family.result.now
    (parent_within tree of.shape c.args.node parent c.requires.live c.parent-parent.ensures) c.index_mut-family.ensures.value)
    ∙ ap (children_at families) c.parent-parent.ensures in
    let r =
    subst (λ (old : List Child). IsRenewed c.args.node content.total sum old new.children.items) old_is
    (subst (λ (total : List Entry). IsRenewed c.args.node total sum c.index_mut-family.result.now.children.items new.children.items)
    c.total.ensures c.renew.ensures.renewed) in
    let all =
    subst (λ (p : ℕ). IsRepaired content tree (slice_set families p new) tree.marks.stale) (sym c.parent-parent.ensures)
    (renewed content tree c.args.node of c.requires.live (ledger_weighs c.args.ledger.now) sum
    (sum_read content tree of.shape of.sums c.args.node sum c.requires.live c.index.ensures) new r) in
    let families = slice_set families parent new in
    record {
      paths = of.paths;
      distinct = of.distinct;
      shape = subst (λ (flags : List Bool). IsShape tree.places.items families flags tree.sums.items) (sym c.renew.ensures.stale) all.shape;
      sums = of.sums;
      complete = all.complete;
      right = subst (AreRight content tree.places.items families) (sym c.renew.ensures.stale) all.right;
    }
