-- There are at most as many dirty nodes as nodes.
use Rattle.std.specs.List.{AllByRecursion, IsDistinct, list_any}
use Rattle.std.specs.Cmp.Lexicographic.{lists_equiv, nat_list_eq_equiv}
use Rattle.std.proofs.Common.{refl, sym, subst, inl, inr, arith, ◌≡◌, ◌≤◌, ℕ, suc, Bool, true, false, List, [], ◌∷◌, length, slice_index_or}
use Rattle.std.proofs.lemmas.Bool.{false≢true, false_from_ne_true, or_cases}
use Rattle.std.proofs.lemmas.Map.Made.{length-le_from_is_member}
use Rattle.drf_tree.proofs.Names.{Path, IsNodePath, same_path, same_path-true, count_by-cons, Content, HasNodes, Tree, IsShapeOf, marked_in, path_at, IsTidy}

-- the paths of the dirty numbers
abbrev marked_paths : (ℕ → Path) → List Bool → List Path
marked_paths at [] = []
marked_paths at (true ∷ stale) = at 0 ∷ marked_paths (λ i. at (suc i)) stale
marked_paths at (false ∷ stale) = marked_paths (λ i. at (suc i)) stale

as_many : (at : ℕ → Path) (stale : List Bool) → length (marked_paths at stale) ≡ marked_in stale
as_many at [] = refl
as_many at (true ∷ stale) =
    omega (arith, as_many (λ i. at (suc i)) stale, count_by-cons (λ (f : Bool). f) true stale)
as_many at (false ∷ stale) =
    omega (arith, as_many (λ i. at (suc i)) stale, count_by-cons (λ (f : Bool). f) false stale)

each_marked : (P : Path → Type 0) (at : ℕ → Path) (stale : List Bool)
    → ((i : ℕ) → slice_index_or stale i false ≡ true → P (at i)) → AllByRecursion P (marked_paths at stale)
each_marked P at [] each = tt
each_marked P at (true ∷ stale) each = (each 0 refl, each_marked P (λ i. at (suc i)) stale (λ i. each (suc i)))
each_marked P at (false ∷ stale) each = each_marked P (λ i. at (suc i)) stale (λ i. each (suc i))

-- two dirty numbers have different paths
distinct_marked : (at : ℕ → Path) (stale : List Bool)
    → ((i j : ℕ) → slice_index_or stale i false ≡ true → slice_index_or stale j false ≡ true → at i ≡ at j → i ≡ j)
    → IsDistinct same_path (marked_paths at stale)
unfolding IsDistinct
distinct_marked at [] once = tt
distinct_marked at (true ∷ stale) once = (
  each_marked (λ p. same_path (at 0) p ≡ false) (λ i. at (suc i)) stale
      (λ i up. false_from_ne_true (same_path (at 0) (at (suc i)))
      (λ same. absurd (omega (arith, once 0 (suc i) refl up (same_path-true (at 0) (at (suc i)) same))))),
  distinct_marked (λ i. at (suc i)) stale (λ i j one other same. omega (arith, once (suc i) (suc j) one other same)),
)
distinct_marked at (false ∷ stale) once =
    distinct_marked (λ i. at (suc i)) stale (λ i j one other same. omega (arith, once (suc i) (suc j) one other same))

among : (nodes : List Path) (path : Path) (paths : List Path)
    → AllByRecursion (λ p. list_any (same_path p) nodes ≡ true) paths
    → list_any (same_path path) paths ≡ true → list_any (same_path path) nodes ≡ true
among nodes path [] each some = absurd (false≢true some)
among nodes path (p ∷ paths) each some = elim (or_cases (same_path path p) (list_any (same_path path) paths) some) [
  | inl here ↦ subst (λ (q : Path). list_any (same_path q) nodes ≡ true) (sym (same_path-true path p here)) each.0
  | inr past ↦ among nodes path paths each.1 past
]

some_part : (node : Path) → IsNodePath node → 1 ≤ length node
some_part [] right = absurd (right.not_empty refl)
some_part (part ∷ parts) right = omega arith

pub few_stale : (content : Content) (tree : Tree) (nodes : List Path) → IsShapeOf tree → IsTidy content tree.places.items
    → HasNodes content nodes → marked_in tree.marks.stale ≤ length nodes
few_stale content tree nodes shape tidy has =
    let at : ℕ → Path = path_at tree.places.items in
    let stale : List Bool = tree.marks.stale in
    let once = distinct_marked at stale
    (λ i j one other same. shape.distinct i j (shape.unmarked i one) (shape.unmarked j other) same) in
    let each = each_marked (λ p. list_any (same_path p) nodes ≡ true) at stale
    (λ i up. let live = shape.unmarked i up in has (at i) (some_part (at i) (shape.right i live)) (tidy i live)) in
    omega (
      arith,
      as_many at stale,
      length-le_from_is_member (lists_equiv nat_list_eq_equiv) (marked_paths at stale) nodes once
          (λ path. among nodes path (marked_paths at stale) each),
    )
