-- Candidates that are sorted by their keys are in the order in which their clients are served.
use Rattle.std.proofs.Common.{◌≡◌, ◌≢◌, ◌<◌, ℕ, suc, Bool, true, false, IsTrue, List, [], ◌∷◌, All, map, length, get_or, refl, sym, ap, ◌∙◌, inl, inr, arith}
use Rattle.std.specs.declared.cmp.Ordering.{Ordering}
use Rattle.std.specs.Cmp.{IsTotalOrder, nat_cmp_total}
use Rattle.std.specs.Cmp.Lexicographic.{slice_cmp, nat_list_cmp_total, lists_equiv, nat_list_eq_equiv, pointwise_decides, bytes_decides}
use Rattle.std.specs.List.{AllByRecursion, IsDistinct, filter, list_all}
use Rattle.std.specs.List.Sorted.{IsPermutation, IsSortedBy}
use Rattle.std.specs.Ordering.{is_lt, ordering_then}
use Rattle.std.specs.String.{string_bytes}
use Rattle.std.proofs.lemmas.Bool.{false≢true, not-false, cases_Bool, and_from}
use Rattle.std.proofs.lemmas.Cmp.{then_total, on_total, lists_total}
use Rattle.std.proofs.lemmas.List.{get_or-map, length-map}
use Rattle.std.proofs.lemmas.List.Elements.{All-get_or}
use Rattle.std.proofs.lemmas.List.Sorted.{ranks_by, sorted_far}
use Rattle.std.proofs.lemmas.Map.Keys.{IsDistinct-head, IsDistinct-tail, IsDistinct-cons, IsDistinct-IsPermutation, apart_from_distinct}
use Rattle.drf_role.specs.Path.{same_path}
use Rattle.drf_rows.specs.Share.{Standing, stands_before, is_serving_order}
use Rattle.drf_sorter.specs.declared.key.Key.{Key}
use Rattle.drf_sorter.specs.declared.candidate.Candidate.{Candidate}
use Rattle.drf_sorter.specs.Candidates.{HasKeys}
use Rattle.drf_role.proofs.PathLaws.{client_paths-apart}
use Rattle.drf_sorter.proofs.theorems.OrderLaws.{is_lt-keys, stands_before-total}
use Rattle.drf_sorter.specs.Keys.{key_by, key_cmp}
use Rattle.drf_sorter.specs.laws.ShareLaws.{share_total}

-- ---- the order of candidates

abbrev made_cmp : Key → Key → Ordering
made_cmp a b = key_cmp (key_by a) (key_by b)

abbrev candidate_lt : Candidate → Candidate → Bool
candidate_lt a b = is_lt (slice_cmp made_cmp a.keys.items b.keys.items)

made_total : IsTotalOrder made_cmp
made_total =
    then_total (on_total (λ (r : Key). r.share) share_total)
    (then_total (on_total (λ (r : Key). r.count) nat_cmp_total)
    (on_total (λ (r : Key). string_bytes r.name) nat_list_cmp_total))

slice_cmp-map : (xs ys : List Key) → slice_cmp made_cmp xs ys ≡ slice_cmp key_cmp (map key_by xs) (map key_by ys)
slice_cmp-map [] [] = refl
slice_cmp-map [] (y ∷ ys) = refl
slice_cmp-map (x ∷ xs) [] = refl
slice_cmp-map (x ∷ xs) (y ∷ ys) = ap (λ o. ordering_then (made_cmp x y) o) (slice_cmp-map xs ys)

module _ (s : Standing) where
  -- comparing the keys of two candidates gives the order of their clients
  candidate_lt-is : (a b : Candidate) → HasKeys s a → HasKeys s b → a.path ≢ b.path
      → candidate_lt a b ≡ stands_before s a.path b.path
  candidate_lt-is a b p q other =
      ap is_lt (slice_cmp-map a.keys.items b.keys.items)
      ∙ (λ i. is_lt (slice_cmp key_cmp (p.keys i) (q.keys i)))
      ∙ is_lt-keys s [] a.path b.path (client_paths-apart a.path b.path p.right q.right other)
      (client_paths-apart b.path a.path q.right p.right (λ e. other (sym e)))

  -- the first of two sorted candidates comes before the second
  sorted_before : (a b : Candidate) → HasKeys s a → HasKeys s b → a.path ≢ b.path → candidate_lt b a ≡ false
      → stands_before s a.path b.path ≡ true
  sorted_before a b p q other sorted =
      let apart = client_paths-apart a.path b.path p.right q.right other in
      let apart_back = client_paths-apart b.path a.path q.right p.right (λ e. other (sym e)) in
      not-false (stands_before s a.path b.path)
      (sym (stands_before-total s a.path b.path apart apart_back) ∙ sym (candidate_lt-is b a q p (λ e. other (sym e)))
      ∙ sorted)

  all_later : (p : List (List ℕ)) (cs : List Candidate)
      → ((j : ℕ) (d : Candidate) → j < length cs → stands_before s p (get_or cs j d).path ≡ true)
      → list_all (stands_before s p) (map (λ (c : Candidate). c.path) cs) ≡ true
  all_later p [] before = refl
  all_later p (c ∷ cs) before =
      and_from _ _ (before 0 c (omega arith)) (all_later p cs (λ j d inside. before (suc j) d (omega arith)))

  serving : (cs : List Candidate)
      → ((i j : ℕ) (d : Candidate) → i < j → j < length cs
      → stands_before s (get_or cs i d).path (get_or cs j d).path ≡ true)
      → is_serving_order s (map (λ (c : Candidate). c.path) cs) ≡ true
  serving [] before = refl
  serving (c ∷ cs) before =
      and_from _ _ (all_later c.path cs (λ j d inside. before 0 (suc j) d (omega arith) (omega arith)))
      (serving cs (λ i j d below inside. before (suc i) (suc j) d (omega arith) (omega arith)))

  pub sorted_serving : (cs : List Candidate) → All (HasKeys s) cs
      → IsDistinct same_path (map (λ (c : Candidate). c.path) cs) → IsSortedBy candidate_lt cs
      → IsTrue (is_serving_order s (map (λ (c : Candidate). c.path) cs))
  sorted_serving cs keys distinct sorted = serving cs (λ i j d below inside.
      let a = get_or cs i d in
      let b = get_or cs j d in
      let long : j < length (map (λ (c : Candidate). c.path) cs) =
      rw (length-map cs (λ (c : Candidate). c.path)) inside in
      let names : same_path a.path b.path ≡ false =
      (λ k. same_path (sym (get_or-map (λ (c : Candidate). c.path) cs i d d.path (omega arith)) k)
      (sym (get_or-map (λ (c : Candidate). c.path) cs j d d.path inside) k))
      ∙ apart_from_distinct same_path (map (λ (c : Candidate). c.path) cs) i j d.path distinct below long in
      sorted_before a b (All-get_or (HasKeys s) cs i d (omega arith) keys) (All-get_or (HasKeys s) cs j d inside keys)
      (λ e. false≢true (sym names ∙ (pointwise_decides bytes_decides a.path b.path).1 e))
      (sorted_far candidate_lt (ranks_by (lists_total made_total) (λ (c : Candidate). c.keys.items)) cs sorted i j d
      (omega arith) inside))

-- ---- paths are distinct

kept : {X : Type 0} (f : X → List (List ℕ)) (p : X → Bool) (path : List (List ℕ)) (xs : List X)
    → AllByRecursion (λ q. same_path path q ≡ false) (map f xs)
    → AllByRecursion (λ q. same_path path q ≡ false) (map f (filter p xs))
kept f p path [] all = tt
kept f p path (x ∷ xs) all = elim (cases_Bool (p x)) [
  | inl passes ↦ rw passes (all.0, kept f p path xs all.1)
  | inr fails ↦ rw fails (kept f p path xs all.1)
]

pub distinct_filter : {X : Type 0} (f : X → List (List ℕ)) (p : X → Bool) (xs : List X)
    → IsDistinct same_path (map f xs) → IsDistinct same_path (map f (filter p xs))
distinct_filter f p [] distinct = distinct
distinct_filter f p (x ∷ xs) distinct = elim (cases_Bool (p x)) [
  | inl passes ↦
      rw passes
      (IsDistinct-cons same_path (f x) (map f (filter p xs))
      (kept f p (f x) xs (IsDistinct-head same_path (f x) (map f xs) distinct))
      (distinct_filter f p xs (IsDistinct-tail same_path (f x) (map f xs) distinct)))
  | inr fails ↦ rw fails (distinct_filter f p xs (IsDistinct-tail same_path (f x) (map f xs) distinct))
]

pub distinct_moved : (xs ys : List (List (List ℕ))) → IsPermutation xs ys → IsDistinct same_path xs
    → IsDistinct same_path ys
distinct_moved = IsDistinct-IsPermutation same_path (lists_equiv nat_list_eq_equiv).symm
