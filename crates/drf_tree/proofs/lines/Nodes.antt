-- The lines of the nodes, from their sums.
use Rattle.std.specs.List.{list_any, AllByRecursion}
use Rattle.std.specs.Option.{is_some, option_map_or}
use Rattle.std.proofs.Common.{refl, sym, ap, subst, ◌∙◌, inl, inr, arith, ◌≡◌, ◌≤◌, ◌<◌, ◌+◌, ℕ, zero, suc, true, List, [], ◌∷◌, ◌++◌, Option, Some, length, map, slice_get, take}
use Rattle.std.proofs.lemmas.Bool.{cases_Bool, false≢true, or_cases}
use Rattle.drf_tree.proofs.Names.{amount_of, is_in_order, Entry, Path, Text, same_text, same_from_test, Child, Place, Sum, Tree, child_name, children_at, is_live, is_node, path_at, place_at, IsChildOf, IsTreeOf}
use Rattle.drf_sorter.specs.Content.{Content, has_node, standing_in}
use Rattle.drf_sorter.proofs.theorems.LineLaws.{IsLineOf-with}
use Rattle.drf_sorter.specs.Lines.{IsLineOf, line_with}
use Rattle.drf_tree.proofs.change.Climb.{node_from_live, some_part}
use Rattle.drf_tree.proofs.shape.Find.{not_below, take_one_more, take_whole}
use Rattle.drf_tree.proofs.sums.Share.{somebody, sum_is}
use Rattle.drf_tree.proofs.shape.Way.{live_from, top_is}

-- ---- the line of a node

module _ (content : Content) (tree : Tree) (of : IsTreeOf content tree) (node : ℕ) (place : Place)
    (at : place_at tree.places.items node ≡ Some place) where
  pub live_place : is_live tree.places.items node ≡ true
  live_place = ap is_some at

  pub path_place : path_at tree.places.items node ≡ place.path
  path_place = ap (λ (o : Option Place). option_map_or (λ p. p.path) o []) at

  pub line_is : (sum : Sum) (held : List Entry) → slice_get tree.sums.items node ≡ Some sum → 0 < sum.clients
      → is_in_order held ≡ true → ((label : Text) → amount_of held label ≡ amount_of sum.held label)
      → IsLineOf content (line_with content.total sum.weight place.path held sum.count)
  unfolding standing_in
  line_is sum held there some ordered same =
      let parts : 1 ≤ length place.path =
      omega (
        arith,
        ap length path_place,
        some_part tree.places.items tree.families.items tree.marks.stale tree.sums.items of.shape node node live_place,
      ) in
      let is = sum_is content tree of node place.path live_place path_place sum there in
      IsLineOf-with content sum.weight place.path held sum.count parts
      (somebody content tree of node place.path live_place path_place sum there some) ordered
      (λ label. same label ∙ is.held label) is.count is.weight

-- ---- the nodes that have clients

named_at : (path : Path) (k : ℕ) → k < length path → (name : Text) × (slice_get path k ≡ Some name)
named_at [] k within = absurd (omega arith)
named_at (p ∷ ps) zero within = (p, refl)
named_at (p ∷ ps) (suc k) within = named_at ps k (omega arith)

-- a node with this path, or the root
pub record IsPlaced (places : List (Option Place)) (path : Path) : Type 0 where
  pub node : ℕ
  pub there : is_node places node ≡ true
  pub at : path_at places node ≡ path

child_named : (places : List (Option Place)) (node : ℕ) (name : Text) (cs : List Child)
    → AllByRecursion (IsChildOf places node) cs → list_any (same_text name) (map child_name cs) ≡ true
    → IsPlaced places (path_at places node ++ name ∷ [])
child_named places node name [] all some = absurd (false≢true some)
child_named places node name (c ∷ cs) all some =
    elim (or_cases (same_text name (child_name c)) (list_any (same_text name) (map child_name cs)) some) [
      | inl here ↦ record {
        node = c.node;
        there = node_from_live places c.node all.0.live;
        at = all.0.path ∙ ap (λ (t : Text). path_at places node ++ t ∷ []) (sym (same_from_test name (child_name c) here));
      }
      | inr past ↦ child_named places node name cs all.1 past
    ]

module _ (content : Content) (tree : Tree) (of : IsTreeOf content tree) (path : Path) (has : has_node content path ≡ true) where
  placed : (k : ℕ) → k ≤ length path → IsPlaced tree.places.items (take k path)
  placed zero within = record {
    node = 0;
    there = refl;
    at = top_is tree.places.items tree.families.items tree.marks.stale tree.sums.items of.shape;
  }
  placed (suc k) within = by (placed k (omega arith)) (named_at path k (omega arith))
    where
      by : IsPlaced tree.places.items (take k path) → (name : Text) × (slice_get path k ≡ Some name)
          → IsPlaced tree.places.items (take (suc k) path)
      by prefix next =
          let children : List Child = children_at tree.families.items prefix.node in
          let more : take k path ++ next.0 ∷ [] ≡ take (suc k) path =
          sym (take_one_more path k next.0 next.1) ∙ (let e : k + 1 ≡ suc k = omega arith in ap (λ (n : ℕ). take n path) e) in
          elim (cases_Bool (list_any (same_text next.0) (map child_name children))) [
            | inl some ↦
                subst (IsPlaced tree.places.items) (ap (λ (p : Path). p ++ next.0 ∷ []) prefix.at ∙ more)
                (child_named tree.places.items prefix.node next.0 children (of.shape.children prefix.node) some)
            | inr none ↦
                absurd (not_below tree of.shape prefix.node k path next.0 prefix.there prefix.at next.1 none content of has)
          ]

  -- each node with clients has a number
  pub node_of : 1 ≤ length path → (node : ℕ) × (is_live tree.places.items node ≡ true) × (path_at tree.places.items node ≡ path)
  node_of some =
      let whole = placed (length path) (omega arith) in
      let at = whole.at ∙ take_whole path (length path) (omega arith) in (
        whole.node,
        live_from tree.places.items tree.families.items tree.marks.stale tree.sums.items of.shape whole.node whole.there
            (omega (arith, ap length at, some)),
        at,
      )
