-- Adding a free number.
use Rattle.std.specs.List.{AllByRecursion, list_any}
use Rattle.std.specs.Option.{is_some, option_map_or}
use Rattle.std.proofs.Common.{refl, sym, ap, subst, ◌∙◌, inl, inr, arith, length-append, ◌≡◌, ◌<◌, ◌+◌, ◌==◌, ◌||◌, ℕ, zero, suc, true, false, List, [], ◌∷◌, ◌++◌, Option, None, length, map, slice_get, slice_index_or}
use Rattle.drf_tree.proofs.Names.{same_text, Path, same_path, each_from, key_by, key_of, Child, Place, Sum, Tree, IsSameTree, IsShapeOf, IsSameKey, child_name, children_at, is_live, path_at, place_at, IsMarkedOrRight, IsSumOf, IsTreeOf}
use Rattle.drf_sorter.specs.Content.{Content, Ranked, standing_in}
use Rattle.drf_tree.proofs.shape.Node.{live_within}
use Rattle.drf_tree.proofs.growth.Shape.{shape_from, shape_in, shape_seen}

-- appending a default changes no read
pub read_more : {X : Type 0} (xs : List X) (x : X) (i : ℕ) → slice_index_or (xs ++ x ∷ []) i x ≡ slice_index_or xs i x
read_more [] x zero = refl
read_more [] x (suc i) = refl
read_more (y ∷ xs) x zero = refl
read_more (y ∷ xs) x (suc i) = read_more xs x i

get_more : {X : Type 0} (xs ys : List X) (i : ℕ) → i < length xs → slice_get (xs ++ ys) i ≡ slice_get xs i
get_more [] ys i within = absurd (omega arith)
get_more (x ∷ xs) ys zero within = refl
get_more (x ∷ xs) ys (suc i) within = get_more xs ys i (omega arith)

-- trees with the same places, children, sums and flags at each number
module _ (old new : Tree) (at : (i : ℕ) → place_at new.places.items i ≡ place_at old.places.items i)
    (of : (i : ℕ) → children_at new.families.items i ≡ children_at old.families.items i)
    (flags : (i : ℕ) → slice_index_or new.marks.stale i false ≡ slice_index_or old.marks.stale i false)
    (some : 0 < length new.places.items) (sums_long : length new.sums.items ≡ length new.places.items)
    (families_long : length new.families.items ≡ length new.places.items)
    (stale_long : length new.marks.stale ≡ length new.places.items) where
  pub shape_same : IsShapeOf old → IsShapeOf new
  shape_same shape =
      shape_from new.places.items new.families.items new.marks.stale new.sums.items some sums_long families_long stale_long
      (shape_seen (λ i. place_at new.places.items i) (λ i. place_at old.places.items i)
      (λ i. children_at new.families.items i) (λ i. children_at old.families.items i)
      (λ i. slice_index_or new.marks.stale i false) (λ i. slice_index_or old.marks.stale i false) at of flags
      (shape_in old.places.items old.families.items old.marks.stale old.sums.items shape))

  path_same : (i : ℕ) → path_at new.places.items i ≡ path_at old.places.items i
  path_same i = ap (λ (o : Option Place). option_map_or (λ p. p.path) o []) (at i)

  pub tree_seen : (content : Content)
      → ((i : ℕ) → is_live old.places.items i ≡ true → slice_get new.sums.items i ≡ slice_get old.sums.items i)
      → IsTreeOf content old → IsTreeOf content new
  tree_seen content sums tree = record {
    paths = tree.paths;
    distinct = tree.distinct;
    shape = shape_same tree.shape;
    sums = λ i sum live is.
        let was : is_live old.places.items i ≡ true = ap (λ (o : Option Place). is_some o) (sym (at i)) ∙ live in
        subst (λ (p : Path). IsSumOf content p sum) (sym (path_same i)) (tree.sums i sum was (sym (sums i was) ∙ is));
    complete = λ i node part below client.
        ap (λ (cs : List Child). list_any (same_text part) (map child_name cs)) (of i)
        ∙ tree.complete i (ap (λ (o : Option Place). (i == 0) || is_some o) (sym (at i)) ∙ node) part below
        (ap (λ (p : Path). list_any (same_path (p ++ part ∷ below)) (map (λ (c : Ranked). c.path) content.clients)) (sym (path_same i)) ∙ client);
    right = λ i.
        subst (AllByRecursion (IsMarkedOrRight content new.places.items new.marks.stale i)) (sym (of i))
        (each_from (IsMarkedOrRight content old.places.items old.marks.stale i)
        (IsMarkedOrRight content new.places.items new.marks.stale i) (children_at old.families.items i) (here i) (tree.right i));
  }
    where
      here : (i : ℕ) (c : Child) → IsMarkedOrRight content old.places.items old.marks.stale i c
          → IsMarkedOrRight content new.places.items new.marks.stale i c
      here i c (inl marked) = inl (flags c.node ∙ marked)
      here i c (inr key) =
          inr (subst (λ (p : Path). IsSameKey (key_by c.key) (key_of (standing_in content) p (child_name c))) (sym (path_same i)) key)

-- two trees that agree in all that contracts depend on
pub tree_same : (content : Content) (old new : Tree) → IsSameTree old new → IsTreeOf content old → IsTreeOf content new
tree_same content old new same tree =
    let stale : new.marks.stale ≡ old.marks.stale = λ i. (same.marks i).stale in
    tree_seen old new
    (λ i. ap (λ ps. place_at ps i) same.places) (λ i. ap (λ fs. children_at fs i) same.families)
    (λ i. ap (λ flags. slice_index_or flags i false) stale)
    (omega (arith, ap length same.places, tree.shape.some))
    (omega (arith, ap length same.places, ap length same.sums, tree.shape.sums_long))
    (omega (arith, ap length same.places, ap length same.families, tree.shape.families_long))
    (omega (arith, ap length same.places, ap length stale, tree.shape.stale_long))
    content (λ i live. ap (λ ss. slice_get ss i) same.sums) tree

module _ (old new : Tree) (sum : Sum) (places : new.places.items ≡ old.places.items ++ None ∷ [])
    (of : (i : ℕ) → children_at new.families.items i ≡ children_at old.families.items i)
    (families_long : length new.families.items ≡ length old.families.items + 1)
    (stale : new.marks.stale ≡ old.marks.stale ++ false ∷ [])
    (sums : new.sums.items ≡ old.sums.items ++ sum ∷ []) (shape : IsShapeOf old) where
  pub place_more : (i : ℕ) → place_at new.places.items i ≡ place_at old.places.items i
  place_more i = ap (λ ps. place_at ps i) places ∙ read_more old.places.items None i

  flag_more : (i : ℕ) → slice_index_or new.marks.stale i false ≡ slice_index_or old.marks.stale i false
  flag_more i = ap (λ flags. slice_index_or flags i false) stale ∙ read_more old.marks.stale false i

  pub places_long : length new.places.items ≡ length old.places.items + 1
  places_long = omega (arith, ap length places, length-append old.places.items (None ∷ []))

  some_more : 0 < length new.places.items
  some_more = omega (arith, places_long)

  sums_more : length new.sums.items ≡ length new.places.items
  sums_more = omega (arith, ap length sums, length-append old.sums.items (sum ∷ []), places_long, shape.sums_long)

  families_more : length new.families.items ≡ length new.places.items
  families_more = omega (arith, families_long, places_long, shape.families_long)

  stale_more : length new.marks.stale ≡ length new.places.items
  stale_more = omega (arith, ap length stale, length-append old.marks.stale (false ∷ []), places_long, shape.stale_long)

  pub shape_more : IsShapeOf new
  shape_more = shape_same old new place_more of flag_more some_more sums_more families_more stale_more shape

  pub tree_more : (content : Content) → IsTreeOf content old → IsTreeOf content new
  tree_more content tree =
      tree_seen old new place_more of flag_more some_more sums_more families_more stale_more content
      (λ i live.
      ap (λ ss. slice_get ss i) sums
      ∙ get_more old.sums.items (sum ∷ []) i (omega (arith, live_within old.places.items i live, shape.sums_long)))
      tree
