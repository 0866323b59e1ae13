use Rattle.std.proofs.Common.{ap, map, ◌∙◌, take_all}
use Rattle.drf_tree.specs.Family.{seen}
use Rattle.drf_tree.proofs.keys.Siblings.{sorted_seen}
use Rattle.drf_tree.proofs.family.Family.copy.Goals as goal

pub invariant_of-result : goal.invariant_of-result
invariant_of-result c =
    let children = c.args.self.now.children.items in
    let all = take_all c.loop-child.child-index children (rw c.deref-child-items.ensures.value at c.loop-child-test.false) in
    record {
      sorted = sorted_seen c.loop-child.children.items children (c.loop-child.invariant ∙ ap (map seen) all)
          ∙ c.args.self.now.sorted;
    }
