use Rattle.std.proofs.Common.{ap, subst, sym}
use Rattle.std.specs.List.{AllByRecursion}
use Rattle.std.proofs.lemmas.List.Elements.{All-from_recursion, recursion_from_All}
use Rattle.std.proofs.lemmas.List.Sorted.{All-permutation}
use Rattle.drf_role.specs.Path.{IsClientPath}
use Rattle.drf_sorter.specs.Content.{IsOrderOf, active_paths}
use Rattle.drf_tree.specs.Ledger.{ledger_content}
use Rattle.drf_tree.specs.declared.ledger.Ledger.{Ledger}
use Rattle.drf_tree.specs.Queue.{frames_queue, order_in}
use Rattle.drf_tree.specs.Sorter.{Sorted}
use Rattle.drf_tree.proofs.walk.OrderOfTree.{order_of_walk, right_paths}
use Rattle.drf_tree.proofs.keys.Renew.{ledger_weighs}
use Rattle.drf_tree.proofs.sorter.TreeSorterSorter.fix_order.Goals as goal

pub returns-clause-order : goal.returns-clause-order
returns-clause-order c =
    let ledger = c.self.inside.ledger in
    let content = ledger_content ledger in
    let tree = c.repair.new.self in
    let order = order_of_walk content tree c.repair.ensures.tree c.repair.ensures.repaired (ledger_weighs ledger) in
    subst (λ (l : Ledger). IsOrderOf (ledger_content l) (frames_queue content tree c.start.new.self.frames.items))
    (ap (λ (s : Sorted). s.ledger) c.self.view_is)
    (subst (IsOrderOf content) (sym (c.start.ensures.queue content c.repair.ensures.tree)) order)

pub returns-clause-right : goal.returns-clause-right
returns-clause-right c =
    let ledger = c.self.inside.ledger in
    let content = ledger_content ledger in
    let tree = c.repair.new.self in
    let paths = order_in content tree.places.items tree.families.items in
    let order = order_of_walk content tree c.repair.ensures.tree c.repair.ensures.repaired (ledger_weighs ledger) in
    let right = right_paths content tree c.repair.ensures.tree c.repair.ensures.repaired (ledger_weighs ledger) in
    let all = All-permutation IsClientPath (active_paths content) paths order.active (All-from_recursion IsClientPath (active_paths content) right) in
    subst (AllByRecursion IsClientPath) (sym (c.start.ensures.queue content c.repair.ensures.tree)) (recursion_from_All IsClientPath paths all)
