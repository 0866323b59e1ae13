use Rattle.std.proofs.Common.{◌==◌, ap, ◌∙◌}
use Rattle.std.specs.List.{position}
use Rattle.drf_tree.proofs.Names.{Child, are_sorted}
use Rattle.drf_tree.proofs.keys.Siblings.{child_found, found_place, sorted_remove, without_child}
use Rattle.drf_tree.proofs.family.Family.remove.Goals as goal

pub unwrap-place-requires : goal.unwrap-place-requires
unwrap-place-requires c =
    found_place c.args.node c.args.self.now.children.items c.requires c.place_of.result
    (c.place_of.ensures ∙ ap (position (λ (x : Child). x.node == c.args.node)) c.deref.ensures.value)

pub invariant_of-self : goal.invariant_of-self
invariant_of-self c =
    let children = c.args.self.now.children.items in
    let found =
    child_found c.args.node children c.place_of.result c.unwrap-place.result c.remove.result
    (c.place_of.ensures ∙ ap (position (λ (x : Child). x.node == c.args.node)) c.deref.ensures.value)
    c.unwrap-place.ensures c.remove.ensures.value in
    record {
      sorted = ap are_sorted c.remove.ensures.items
          ∙ sorted_remove children c.remove.result c.unwrap-place.result found.0 c.args.self.now.sorted;
    }

pub returns : goal.returns
returns c =
    let children = c.args.self.now.children.items in
    let found =
    child_found c.args.node children c.place_of.result c.unwrap-place.result c.remove.result
    (c.place_of.ensures ∙ ap (position (λ (x : Child). x.node == c.args.node)) c.deref.ensures.value)
    c.unwrap-place.ensures c.remove.ensures.value in
    record {
      child = c.remove.result;
      node_is = found.1;
      gone = rw c.remove.ensures.items (without_child children c.remove.result c.unwrap-place.result found.0);
    }
