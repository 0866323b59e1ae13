-- The walk is the definition's order of the clients.
use Rattle.std.specs.List.Sorted.{IsPermutation}
use Rattle.std.proofs.Common.{sym, subst, ◌∙◌, ◌≡◌, true, List}
use Rattle.std.proofs.lemmas.List.Sorted.{list_any-IsPermutation}
use Rattle.drf_tree.proofs.Names.{Path, is_serving_order, walk, WalkIsOrder}
use Rattle.drf_sorter.proofs.theorems.SortedLaws.{sorted, moved_sorted, ordered_sorted}
use Rattle.drf_tree.proofs.walk.OneOrder.{one_serving_order}
use Rattle.drf_tree.proofs.walk.InOrder.{walk-in_order}
use Rattle.drf_tree.proofs.walk.Members.{walk-has}

pub walk_is_order : WalkIsOrder
walk_is_order is_node path name family s clients depth root node top weighs families right few distinct =
    let found : List Path = walk clients path family depth root in
    let ordered : is_serving_order s found ≡ true =
    walk-in_order (λ x. is_node x ≡ true) path name family s clients families depth root node in
    let moved : IsPermutation clients (sorted s clients) = moved_sorted s clients in
    let same : sorted s clients ≡ found =
    one_serving_order s (sorted s clients) found (ordered_sorted s weighs clients right distinct) ordered
    (λ t. sym (list_any-IsPermutation t clients (sorted s clients) moved)
    ∙ walk-has (λ x. is_node x ≡ true) path name family s clients families root node top depth few t) in
    (subst (IsPermutation clients) same moved, ordered)
