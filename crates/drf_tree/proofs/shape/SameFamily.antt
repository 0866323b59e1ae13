-- Replacing a family by one whose children have the same numbers and names.
use Rattle.std.specs.List.{AllByRecursion, IsDistinct, list_any}
use Rattle.std.specs.List.Sorted.{IsPermutation}
use Rattle.std.proofs.Common.{refl, sym, ap, subst, ◌∙◌, ◌≡◌, ◌<◌, ◌==◌, ℕ, Bool, true, false, List, [], ◌∷◌, ◌++◌, Option, length, map, slice_set, true≢false}
use Rattle.std.proofs.lemmas.List.{length-set, same_from_push}
use Rattle.std.proofs.lemmas.List.Elements.{All-from_recursion, recursion_from_All}
use Rattle.std.proofs.lemmas.List.Sorted.{All-permutation, IsPermutation-map, IsPermutation-sym, IsPermutation-trans, list_any-IsPermutation}
use Rattle.std.proofs.lemmas.Map.Keys.{IsDistinct-IsPermutation}
use Rattle.drf_tree.proofs.Names.{Text, same_text, Path, same_path, each_from, each_map, list_any-map, Content, Child, Family, Place, Tree, IsShapeOf, IsWith, child_name, has_child, known, children_at, is_live, is_node, parent_at, path_at, IsChildOf, IsComplete, IsShape}
use Rattle.drf_tree.proofs.shape.Way.{equal_self}
use Rattle.drf_tree.proofs.growth.With.{each_family, moved_to_prefix, names_flip}

-- ---- lists with the same elements

pub each_moved : {X : Type 0} (P : X → Type 0) (xs ys : List X) → IsPermutation xs ys → AllByRecursion P xs → AllByRecursion P ys
each_moved P xs ys moved all = recursion_from_All P ys (All-permutation P xs ys moved (All-from_recursion P xs all))

-- what holds of the images of a function holds of its arguments
pub each_unmapped : {X Y : Type 0} (P : Y → Type 0) (g : X → Y) (xs : List X) → AllByRecursion P (map g xs)
    → AllByRecursion (λ x. P (g x)) xs
each_unmapped P g [] all = tt
each_unmapped P g (x ∷ xs) all = (all.0, each_unmapped P g xs all.1)

-- two children with the same number have the same name
pub same_name : (places : List (Option Place)) (parent : ℕ) (c d : Child) → IsChildOf places parent c → IsChildOf places parent d
    → c.node ≡ d.node → child_name c ≡ child_name d
same_name places parent c d first second same =
    (same_from_push (path_at places parent) (path_at places parent) (child_name c) (child_name d)
    (sym first.path ∙ ap (path_at places) same ∙ second.path)).1

names_known : (cs : List Child) → map (λ (k : ℕ × Text). k.1) (map known cs) ≡ map child_name cs
names_known [] = refl
names_known (c ∷ cs) = λ i. child_name c ∷ names_known cs i

-- a child is replaced by another with the same number and name
pub renewed_known : (was now : Child) (rest old new : List Child) → IsWith was rest old → IsWith now rest new
    → known now ≡ known was → IsPermutation (map known old) (map known new)
renewed_known was now rest old new gone put same =
    IsPermutation-trans (map known old) (known was ∷ map known rest) (map known new)
    (IsPermutation-map known old (was ∷ rest) (moved_to_prefix was rest old gone))
    (subst (λ (k : ℕ × Text). IsPermutation (k ∷ map known rest) (map known new)) same
    (IsPermutation-sym (map known new) (known now ∷ map known rest)
    (IsPermutation-map known new (now ∷ rest) (moved_to_prefix now rest new put))))

-- ---- the tree

module _ (tree : Tree) (shape : IsShapeOf tree) (parent : ℕ) (f : Family) (below : parent < length tree.families.items)
    (same : IsPermutation (map known (children_at tree.families.items parent)) (map known f.children.items)) where
  abbrev places : List (Option Place)
  places = tree.places.items

  abbrev families : List Family
  families = tree.families.items

  abbrev old : List Child
  old = children_at families parent

  abbrev new : List Child
  new = f.children.items

  abbrev changed : List Family
  changed = slice_set families parent f

  pub same_children : (i : ℕ) → has_child i new ≡ has_child i old
  same_children i =
      sym (list_any-map (λ (k : ℕ × Text). k.0 == i) known new)
      ∙ sym (list_any-IsPermutation (λ (k : ℕ × Text). k.0 == i) (map known old) (map known new) same)
      ∙ list_any-map (λ (k : ℕ × Text). k.0 == i) known old

  same_names : (t : Text → Bool) → list_any t (map child_name new) ≡ list_any t (map child_name old)
  same_names t =
      list_any-map t child_name new
      ∙ sym (list_any-map (λ (k : ℕ × Text). t k.1) known new)
      ∙ sym (list_any-IsPermutation (λ (k : ℕ × Text). t k.1) (map known old) (map known new) same)
      ∙ list_any-map (λ (k : ℕ × Text). t k.1) known old
      ∙ sym (list_any-map t child_name old)

  names_moved : IsPermutation (map child_name old) (map child_name new)
  names_moved =
      subst (λ (ns : List Text). IsPermutation ns (map child_name new)) (names_known old)
      (subst (IsPermutation (map (λ (k : ℕ × Text). k.1) (map known old))) (names_known new)
      (IsPermutation-map (λ (k : ℕ × Text). k.1) (map known old) (map known new) same))

  same_once : IsDistinct same_text (map child_name new)
  same_once =
      IsDistinct-IsPermutation same_text names_flip (map child_name old) (map child_name new) names_moved (shape.once parent)

  -- a child, by its number and its name
  record IsKnown (k : ℕ × Text) : Type 0 where
    pub live : is_live places k.0 ≡ true
    pub above : parent_at places k.0 ≡ parent
    pub path : path_at places k.0 ≡ path_at places parent ++ k.1 ∷ []

  pub children_now : AllByRecursion (IsChildOf places parent) new
  children_now =
      each_from (λ c. IsKnown (known c)) (IsChildOf places parent) new
      (λ c k. record { live = k.live; above = k.above; path = k.path })
      (each_unmapped IsKnown known new
      (each_moved IsKnown (map known old) (map known new) same
      (each_map IsKnown known old
      (each_from (IsChildOf places parent) (λ c. IsKnown (known c)) old
      (λ c child. record { live = child.live; above = child.above; path = child.path }) (shape.children parent)))))

  -- a number without a node has no children
  none_now : is_node places parent ≡ false → new ≡ []
  none_now none = by new (λ i. same_children i ∙ ap (has_child i) (shape.free parent none))
    where
      by : (cs : List Child) → ((i : ℕ) → has_child i cs ≡ false) → cs ≡ []
      by [] nobody = refl
      by (c ∷ cs) nobody = absurd (true≢false (sym (first c cs) ∙ nobody c.node))
        where
          first : (c : Child) (cs : List Child) → has_child c.node (c ∷ cs) ≡ true
          first c cs = rw (equal_self c.node) refl

  pub same_shape : IsShape places changed tree.marks.stale tree.sums.items
  same_shape = record {
    some = shape.some;
    sums_long = shape.sums_long;
    families_long = length-set families parent f ∙ shape.families_long;
    stale_long = shape.stale_long;
    root = shape.root;
    children = each_family (λ i cs. AllByRecursion (IsChildOf places i) cs) families parent f below children_now
        (λ i other. shape.children i);
    kept = λ i there. (
      (shape.kept i there).0,
      each_family (λ j cs. parent_at places i ≡ j → has_child i cs ≡ true) families parent f below
          (λ at. same_children i ∙ subst (λ (j : ℕ). has_child i (children_at families j) ≡ true) at (shape.kept i there).1)
          (λ j other at. subst (λ (k : ℕ). has_child i (children_at families k) ≡ true) at (shape.kept i there).1)
          (parent_at places i) refl,
    );
    once = each_family (λ i cs. IsDistinct same_text (map child_name cs)) families parent f below same_once
        (λ i other. shape.once i);
    distinct = shape.distinct;
    right = shape.right;
    clients = shape.clients;
    others = shape.others;
    free = each_family (λ i cs. is_node places i ≡ false → cs ≡ []) families parent f below none_now (λ i other. shape.free i);
    unmarked = shape.unmarked;
  }

  pub same_complete : (content : Content) → IsComplete content places families → IsComplete content places changed
  same_complete content complete =
      each_family
      (λ i cs. is_node places i ≡ true → (part : Text) (rest : Path)
      → list_any (same_path (path_at places i ++ part ∷ rest)) (map (λ c. c.path) content.clients) ≡ true
      → list_any (same_text part) (map child_name cs) ≡ true) families parent f below
      (λ there part rest some. same_names (same_text part) ∙ complete parent there part rest some)
      (λ i other. complete i)
