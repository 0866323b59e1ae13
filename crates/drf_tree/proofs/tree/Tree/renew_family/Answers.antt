use Rattle.std.proofs.Common.{ap, subst, sym, ◌∙◌, ◌≡◌, List, map}
use Rattle.std.specs.List.{AllByRecursion, IsDistinct}
use Rattle.std.specs.List.Sorted.{IsPermutation}
use Rattle.drf_tree.proofs.Names.{ledger_content, Child, AreFresh, CanKeyAt, has_child, is_same, known, numbers_of, children_at}
use Rattle.drf_tree.proofs.shape.Node.{family_read}
use Rattle.drf_tree.proofs.keys.Renew.{ledger_weighs}
use Rattle.drf_tree.proofs.keys.Repair.{can_key_all, numbers_once, repaired}
use Rattle.drf_tree.proofs.tree.Tree.renew_family.Goals as goal

pub renew_all-requires-clause-once : goal.renew_all-requires-clause-once
renew_all-requires-clause-once c =
    let tree = c.args.self.now in
    let family = c.index_mut-family.result.now in
    let is = family_read tree.families.items c.args.node family c.requires.there c.index_mut-family.ensures.value in
    subst (λ (cs : List Child). IsDistinct is_same (numbers_of cs)) is
    (numbers_once tree.places.items c.args.node (children_at tree.families.items c.args.node) (c.requires.tree.shape.children c.args.node)
    (c.requires.tree.shape.once c.args.node))

pub renew_all-requires-clause-keys : goal.renew_all-requires-clause-keys
renew_all-requires-clause-keys c =
    let tree = c.args.self.now in
    let family = c.index_mut-family.result.now in
    let is = family_read tree.families.items c.args.node family c.requires.there c.index_mut-family.ensures.value in
    let all = can_key_all c.args.ledger.now tree c.args.node c.requires.sound c.requires.tree in
    rw (c.total.ensures, c.deref.ensures.value)
    (subst (λ (cs : List Child). AllByRecursion (λ x. CanKeyAt (ledger_content c.args.ledger.now).total tree.sums.items x.node) cs) is all)

pub returns-clause-tree : goal.returns-clause-tree
returns-clause-tree c =
    let content = ledger_content c.args.ledger.now in
    let tree = c.args.self.now in
    let of = c.requires.tree in
    let family = c.index_mut-family.result.now in
    let new = c.renew_all.new.self in
    let done = c.renew_all.ensures in
    let is : family.children.items ≡ children_at tree.families.items c.args.node =
    sym (family_read tree.families.items c.args.node family c.requires.there c.index_mut-family.ensures.value) in
    let all =
    repaired content tree c.args.node of (ledger_weighs c.args.ledger.now) new c.renew_all.new.marks.stale c.requires.there
    (subst (λ (cs : List Child). IsPermutation (map known cs) (map known new.children.items)) is done.same)
    (subst (λ (cs : List Child). AreFresh content.total tree.sums.items tree.marks.stale cs new.children.items) is
    (rw (c.total.ensures, c.deref.ensures.value) at done.renewed))
    (λ i none. done.others i (ap (has_child i) is ∙ none)) done.down done.long in
    record {
      paths = of.paths;
      distinct = of.distinct;
      shape = all.shape;
      sums = of.sums;
      complete = all.complete;
      right = all.right;
    }
