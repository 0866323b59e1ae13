use Rattle.std.proofs.Common.{◌≡◌, true, not, is_ok, drop, take, ◌∙◌, ap}
use Rattle.std.specs.List.{list_all}
use Rattle.drf_tree.proofs.Names.{Child, are_sorted, is_before}
use Rattle.drf_tree.proofs.keys.Siblings.{sorted_tried, with_child}
use Rattle.drf_tree.proofs.family.Family.insert.Goals as goal

pub invariant_of-self : goal.invariant_of-self
invariant_of-self c =
    let children = c.args.self.now.children.items in
    let place = c.place_for-place.result in
    let before : list_all (λ (x : Child). is_before x.key c.args.child.key) (take place children) ≡ true =
    rw c.deref.ensures.value at c.place_for-place.ensures.before in
    let after : list_all (λ (x : Child). not (is_before x.key c.args.child.key)) (drop place children) ≡ true =
    rw c.deref.ensures.value at c.place_for-place.ensures.after in
    record {
      sorted = ap are_sorted c.insert.ensures.items
          ∙ sorted_tried children c.args.child place (is_ok c.insert.result) c.args.self.now.sorted before after;
    }

pub returns-clause-ok : goal.returns-clause-ok
returns-clause-ok c =
    let children = c.args.self.now.children.items in
    rw c.in_ok-insert.ensures.items (with_child children c.args.child c.place_for-place.result)
