-- The walk of a tree without dirty nodes is the definition's order of its active clients.
use Rattle.std.specs.List.{AllByRecursion, list_any}
use Rattle.std.specs.Option.{option_map_or}
use Rattle.std.proofs.Common.{refl, sym, ap, ◌∙◌, inl, inr, ◌≡◌, ◌≤◌, ℕ, true, List, [], ◌∷◌, ◌++◌, Option, None, Some, length, slice_get, true≢false}
use Rattle.drf_tree.proofs.Names.{same_text, IsClientPath, same_path, each_from, Family, Place, Tree, are_sorted, marked_in, children_at, family_at, is_node, last_part, path_at, IsMarkedOrRight, IsTreeOf, AreFamilies, are_ahead}
use Rattle.drf_sorter.specs.Content.{Content, IsOrderOf, active_paths, standing_in}
use Rattle.drf_sorter.specs.Served.{Weighs}
use Rattle.drf_tree.specs.Queue.{most_parts, order_in}
use Rattle.drf_tree.proofs.walk.Clients.{any_active, distinct_active, each_any, kept_active, short}
use Rattle.drf_tree.proofs.keys.Order.{IsRightAt, ordered_names}
use Rattle.drf_tree.proofs.marks.Flags.{none_marked}
use Rattle.drf_tree.proofs.shape.Node.{children_are, leaf, names_of}
use Rattle.drf_tree.proofs.walk.IsOrder.{walk_is_order}

-- ---- families

sorted_at : (families : List Family) (i : ℕ) → are_sorted (children_at families i) ≡ true
sorted_at families i = by (slice_get families i)
  where
    by : (o : Option Family) → are_sorted (option_map_or (λ f. f.children.items) o []) ≡ true
    by None = refl
    by (Some f) = f.sorted

-- ---- the order

module _ (content : Content) (tree : Tree) (of : IsTreeOf content tree) (clear : marked_in tree.marks.stale ≡ 0)
    (weighs : Weighs (standing_in content)) where
  abbrev places : List (Option Place)
  places = tree.places.items

  abbrev families : List Family
  families = tree.families.items

  pub right_paths : AllByRecursion IsClientPath (active_paths content)
  right_paths = kept_active IsClientPath content.clients of.paths

  rights : (x : ℕ) → AllByRecursion (IsRightAt (standing_in content) (path_at places x)) (children_at families x)
  rights x =
      each_from (IsMarkedOrRight content places tree.marks.stale x) (IsRightAt (standing_in content) (path_at places x)) (children_at families x)
      (λ c either. elim either [
        | inl marked ↦ absurd (true≢false (sym marked ∙ none_marked tree.marks.stale clear c.node))
        | inr right ↦ right
      ]) (of.right x)

  in_order : AreFamilies (λ i. is_node places i ≡ true) (path_at places) (λ i. last_part (path_at places i)) (family_at families) (standing_in content) (active_paths content)
  in_order = record {
    children = λ x node. children_are places x (children_at families x) (of.shape.children x);
    ordered = λ x node.
        ap (are_ahead (standing_in content) (path_at places x)) (names_of places x (children_at families x) (of.shape.children x))
        ∙ ordered_names (standing_in content) weighs (path_at places x) (children_at families x) (sorted_at families x) (rights x) (of.shape.once x);
    complete = λ x node part below some.
        ap (list_any (same_text part)) (names_of places x (children_at families x) (of.shape.children x))
        ∙ of.complete x node part below (any_active (same_path (path_at places x ++ part ∷ below)) content.clients some);
    leaves = λ x node some.
        leaf places families tree.marks.stale tree.sums.items of.shape x
        (each_any IsClientPath (path_at places x) (active_paths content) right_paths some);
  }

  pub order_of_walk : IsOrderOf content (order_in content places families)
  unfolding order_in
  order_of_walk =
      let top : path_at places 0 ≡ [] = ap (λ (o : Option Place). option_map_or (λ p. p.path) o []) of.shape.root in
      let both =
      walk_is_order (is_node places) (path_at places) (λ i. last_part (path_at places i)) (family_at families)
      (standing_in content) (active_paths content) most_parts 0 refl top weighs in_order right_paths
      (each_from IsClientPath (λ p. length p ≤ most_parts) (active_paths content) short right_paths)
      (distinct_active content.clients of.distinct) in
      record { active = both.0; in_order = both.1 }
