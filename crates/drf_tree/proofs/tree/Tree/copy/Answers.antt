use Rattle.std.proofs.Common.{ap, map, ◌∙◌}
use Rattle.drf_tree.specs.Nodes.{seen_in}
use Rattle.drf_tree.proofs.shape.Copy.{copied_lists}
use Rattle.drf_tree.proofs.tree.Tree.copy.Goals as goal

pub returns-clause-tree : goal.returns-clause-tree
returns-clause-tree c content =
    copied_lists content c.args.self.now
    (record {
      places = c.in_ok-copy.field-0;
      sums = c.in_ok-copies_of_sums.field-0;
      families = c.in_ok-copies_of_families.field-0;
      marks = c.in_ok-copy-2.field-0;
    })
    c.in_ok-copy.ensures (c.in_ok-copies_of_sums.ensures ∙ c.deref.ensures.value)
    (c.in_ok-copies_of_families.ensures ∙ ap (map seen_in) c.deref-2.ensures.value) c.in_ok-copy-2.ensures
