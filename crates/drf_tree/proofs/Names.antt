-- Definitions and lemmas of other crates that the proofs of this crate use, exported in one place.
pub use Rattle.drf_bundle.proofs.ListLaws.{cond_le, count_by-cons, each_append, each_at, each_from, each_from_both, each_map, each_parts, length-filter_le, list_any-map, list_any_at, sum_by-filter}
pub use Rattle.drf_bundle.specs.Quantities.{amount_of, is_in_order, is_named, minus, names_all, plus, with_amount}
pub use Rattle.drf_bundle.specs.declared.quantities.Entry.{Entry}
pub use Rattle.drf_role.specs.Path.{IsClientPath, IsNodePath, Path, begins_with, same_path}
pub use Rattle.drf_role.specs.PathLaws.{path_decides, same_path-true, same_path_itself}
pub use Rattle.drf_role.proofs.PathLaws.{client_paths-apart, same_path-swap}
pub use Rattle.drf_role.specs.Text.{Text, same_text}
pub use Rattle.drf_role.specs.TextLaws.{same_from_test, same_itself}
pub use Rattle.drf_role.proofs.TextLaws.{cases_same}
pub use Rattle.drf_rows.specs.Share.{Fraction, Standing, greatest, is_less, is_serving_order, share_of, stands_before, weighted_share_of}
pub use Rattle.drf_sorter.specs.Content.{Content, HasNodes, Ranked, activated, active_paths, charged, clients_under, empty, has_client, has_node, with_change, with_client, without_client}
pub use Rattle.drf_sorter.specs.Keys.{Key, key_by, key_cmp, key_of}
pub use Rattle.drf_tree.specs.Ledger.{ledger_content}
pub use Rattle.drf_tree.specs.Changes.{CanLower, CanLowerAt, HasRoomFor, IsKeyOfNothing, IsLeast, IsLowerable, IsOneLonger, IsSameTree, IsShapeOf, NamesFew, NamesFewOnWay, OnWay, is_bare_at, lowered}
pub use Rattle.drf_tree.specs.Family.{AreFresh, CanKey, CanKeyAt, IsFresh, IsGone, IsKeyed, IsRenewed, IsSameKey, IsWith, WasRight, are_sorted, child_name, has_child, is_before, is_not_behind, is_same, key_for, known, numbers_of, seen, without_place}
pub use Rattle.drf_tree.specs.Marks.{AreWaiting, Defers, Flags, Spends, marked_in, work_of}
pub use Rattle.drf_tree.specs.Nodes.{children_at, client_at, family_at, holds_any, is_holding, is_live, is_node, last_part, parent_at, path_at, place_at, seen_in}
pub use Rattle.drf_tree.specs.Queue.{AreFrames, AreNested, IsAtClient, IsNext, IsSettled, active_at, frames_queue, most_parts, onward, pending}
pub use Rattle.drf_tree.specs.Tidy.{IsOneMore, IsTidy, IsTidyBut}
pub use Rattle.drf_tree.specs.Tree.{AreRight, AreSums, IsChildOf, IsComplete, IsMarkedOrRight, IsRight, IsShape, IsSumOf, IsTotalFree, IsTreeBut, IsTreeOf}
pub use Rattle.drf_tree.specs.Walk.{AreFamilies, IsChild, WalkIsOrder, are_ahead, own, walk}
pub use Rattle.drf_tree.specs.declared.family.Child.{Child}
pub use Rattle.drf_tree.specs.declared.family.Family.{Family}
pub use Rattle.drf_tree.specs.declared.node.Place.{Place}
pub use Rattle.drf_tree.specs.declared.node.Sum.{Sum}
pub use Rattle.drf_tree.specs.declared.tree.Tree.{Tree}
pub use Rattle.drf_tree.specs.declared.walk.Frame.{Frame}
