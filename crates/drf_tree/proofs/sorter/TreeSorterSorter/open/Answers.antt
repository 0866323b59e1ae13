use Rattle.std.proofs.Common.{false}
use Rattle.drf_sorter.specs.Content.{empty}
use Rattle.drf_tree.proofs.walk.Kept.{stopped, total_counts}
use Rattle.drf_tree.proofs.sorter.TreeSorterSorter.open.Goals as goal

pub invariant_of-result : goal.invariant_of-result
invariant_of-result c =
    stopped c.new.result empty c.new.ensures c.in_ok-open.field-0 c.in_ok-open-2.field-0 false c.in_ok-open-2.ensures c.in_ok-open.ensures.tree
    (total_counts empty c.in_ok-open.field-0) c.in_ok-open.ensures.tidy
