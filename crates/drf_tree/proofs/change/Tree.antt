-- A tree whose sums, dirty flags and keys are those of another content.
use Rattle.std.specs.List.{AllByRecursion, IsDistinct}
use Rattle.std.proofs.Common.{sym, ap, subst, ◌∙◌, inl, inr, arith, get_or, ◌≡◌, ◌<◌, ℕ, Bool, true, false, List, [], ◌∷◌, ◌++◌, Option, Some, length, map, slice_get, slice_index_or}
use Rattle.std.proofs.lemmas.Bool.{cases_Bool}
use Rattle.std.proofs.lemmas.Option.{slice_get_within, slice_get-get_or}
use Rattle.drf_tree.proofs.Names.{Text, Path, IsClientPath, begins_with, same_path, each_from, each_from_both, Key, key_by, key_of, Child, Family, Place, Sum, Tree, IsSameKey, child_name, children_at, is_live, path_at, AreRight, AreSums, IsChildOf, IsComplete, IsMarkedOrRight, IsRight, IsShape, IsTreeOf}
use Rattle.drf_rows.specs.Held.{weight_of}
use Rattle.drf_sorter.specs.Content.{Content, Ranked, standing_in}
use Rattle.drf_tree.proofs.change.Climb.{AreChanged, AreMarked, beside_from, some_part, way_from}
use Rattle.drf_tree.proofs.sums.Move.{Amounts, AreMoved, IsMoved, key_again, none, not_moved, sum_after, total_under}

-- lists of the same length have the same shape, if no free number becomes dirty
pub shape_again : (places : List (Option Place)) (families : List Family) (stale stale_now : List Bool) (sums sums_now : List Sum)
    → IsShape places families stale sums → length stale_now ≡ length stale → length sums_now ≡ length sums
    → ((i : ℕ) → slice_index_or stale_now i false ≡ true → is_live places i ≡ true)
    → IsShape places families stale_now sums_now
shape_again places families stale stale_now sums sums_now shape marks_long sums_long unmarked =
    record {
      some = shape.some;
      sums_long = sums_long ∙ shape.sums_long;
      families_long = shape.families_long;
      stale_long = marks_long ∙ shape.stale_long;
      root = shape.root;
      children = shape.children;
      kept = shape.kept;
      once = shape.once;
      distinct = shape.distinct;
      right = shape.right;
      clients = shape.clients;
      others = shape.others;
      free = shape.free;
      unmarked = unmarked;
    }

module _ (content changed : Content) (places : List (Option Place)) (families : List Family) (stale : List Bool) (sums : List Sum)
    (shape : IsShape places families stale sums) where
  -- a key stays right if nothing that it depends on changes
  pub right_again : (i : ℕ) (c : Child)
      → AreMoved none none content changed (path_at places i ++ child_name c ∷ []) → changed.total ≡ content.total
      → IsRight content places i c → IsRight changed places i c
  right_again i c moved total right =
      let same : key_of (standing_in changed) (path_at places i) (child_name c)
      ≡ key_of (standing_in content) (path_at places i) (child_name c) =
      key_again content changed (path_at places i) (child_name c) (λ label. omega (arith, moved.held label))
      (omega (arith, moved.count)) moved.weight total in
      subst (λ (k : Key). IsSameKey (key_by c.key) k) (sym same) right

  module _ (leaf : ℕ) (less more : Amounts)
      (on : (p : Path) → begins_with (path_at places leaf) p ≡ true → AreMoved less more content changed p)
      (off : (p : Path) → begins_with (path_at places leaf) p ≡ false → AreMoved none none content changed p) where
    pub sums_after : (now : List Sum) → AreChanged places leaf 0 (λ i. IsMoved less more) sums now
        → AreSums content places sums → AreSums changed places now
    sums_after now so right i t live at =
        elim (cases_Bool (begins_with (path_at places leaf) (path_at places i))) [
          | inl begins ↦
              let within : i < length sums = omega (arith, slice_get_within now i t at, so.long) in
              let was : slice_get sums i ≡ Some (get_or sums i t) = slice_get-get_or sums i t within in
              sum_after less more content changed (path_at places i) (get_or sums i t) t
              (right i (get_or sums i t) live was) (on (path_at places i) begins)
              (so.passed i (get_or sums i t) t (way_from places leaf i live begins) (some_part places families stale sums shape leaf i live) was at)
          | inr other ↦
              let was : slice_get sums i ≡ Some t =
              sym (so.beside i (beside_from places leaf i other)) ∙ at in
              sum_after none none content changed (path_at places i) t t (right i t live was) (off (path_at places i) other) (not_moved t)
        ]

    -- each node above the leaf is dirty
    pub right_marked : (now : List Bool) → AreMarked places leaf 0 stale now → changed.total ≡ content.total
        → AreRight content places families stale → AreRight changed places families now
    right_marked now so total right i =
        each_from_both (IsChildOf places i) (IsMarkedOrRight content places stale i) (IsMarkedOrRight changed places now i)
        (children_at families i) here (shape.children i) (right i)
      where
        here : (c : Child) → IsChildOf places i c → IsMarkedOrRight content places stale i c → IsMarkedOrRight changed places now i c
        here c child was = elim (cases_Bool (begins_with (path_at places leaf) (path_at places c.node))) [
          | inl begins ↦
              inl (so.passed c.node (way_from places leaf c.node child.live begins)
              (some_part places families stale sums shape leaf c.node child.live))
          | inr other ↦
              elim was [
                | inl marked ↦ inl (so.beside c.node (beside_from places leaf c.node other) ∙ marked)
                | inr key ↦
                    inr (right_again i c
                    (off (path_at places i ++ child_name c ∷ [])
                    (ap (begins_with (path_at places leaf)) (sym child.path) ∙ other))
                    total key)
              ]
        ]

  -- no key changes
  pub right_kept : ((p : Path) → (label : Text) → total_under (λ c. c.held label) changed p ≡ total_under (λ c. c.held label) content p)
      → ((p : Path) → total_under (λ c. c.count) changed p ≡ total_under (λ c. c.count) content p)
      → changed.weights ≡ content.weights → changed.total ≡ content.total
      → AreRight content places families stale → AreRight changed places families stale
  right_kept held count weights total right i =
      each_from (IsMarkedOrRight content places stale i) (IsMarkedOrRight changed places stale i) (children_at families i) here (right i)
    where
      here : (c : Child) → IsMarkedOrRight content places stale i c → IsMarkedOrRight changed places stale i c
      here c (inl marked) = inl marked
      here c (inr key) =
          let p : Path = path_at places i ++ child_name c ∷ [] in
          let same : key_of (standing_in changed) (path_at places i) (child_name c)
          ≡ key_of (standing_in content) (path_at places i) (child_name c) =
          key_again content changed (path_at places i) (child_name c) (held p) (count p)
          (ap (λ ws. weight_of ws p) weights) total in
          inr (subst (λ (k : Key). IsSameKey (key_by c.key) k) (sym same) key)

-- what holds of the lists holds of the tree
pub tree_from : (content : Content) (old new : Tree) → new.places ≡ old.places → new.families ≡ old.families
    → AllByRecursion IsClientPath (map (λ (c : Ranked). c.path) content.clients)
    → IsDistinct same_path (map (λ (c : Ranked). c.path) content.clients)
    → IsShape old.places.items old.families.items new.marks.stale new.sums.items
    → AreSums content old.places.items new.sums.items
    → IsComplete content old.places.items old.families.items
    → AreRight content old.places.items old.families.items new.marks.stale
    → IsTreeOf content new
tree_from content old new places families paths distinct shape sums complete right = record {
  paths = paths;
  distinct = distinct;
  shape =
      subst (λ (ps : List (Option Place)). IsShape ps new.families.items new.marks.stale new.sums.items) (sym at)
      (subst (λ (fs : List Family). IsShape old.places.items fs new.marks.stale new.sums.items) (sym of) shape);
  sums = subst (λ (ps : List (Option Place)). AreSums content ps new.sums.items) (sym at) sums;
  complete =
      subst (λ (ps : List (Option Place)). IsComplete content ps new.families.items) (sym at)
      (subst (λ (fs : List Family). IsComplete content old.places.items fs) (sym of) complete);
  right =
      subst (λ (ps : List (Option Place)). AreRight content ps new.families.items new.marks.stale) (sym at)
      (subst (λ (fs : List Family). AreRight content old.places.items fs new.marks.stale) (sym of) right);
}
  where
    at : new.places.items ≡ old.places.items
    at = λ i. (places i).items

    of : new.families.items ≡ old.families.items
    of = λ i. (families i).items
