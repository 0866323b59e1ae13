-- A child whose key has changed moves to its position among its siblings.
use Rattle.std.specs.List.{list_all}
use Rattle.std.proofs.Common.{refl, sym, ap, ◌∙◌, inl, inr, arith, ◌≡◌, ◌≤◌, ◌<◌, ◌+◌, ◌-◌, ℕ, zero, suc, true, false, not, List, [], ◌∷◌, ◌++◌, length, take, drop, set, slice_index_or, subst, length-append}
use Rattle.std.proofs.lemmas.Bool.{true≢false, and_from, and_parts, cases_Bool, cases_lt, not-true}
use Rattle.std.proofs.Math.Seq.{drop-append-add, take-append-add}
use Rattle.std.proofs.lemmas.List.{append_assoc, drop-set-lt, get_or-drop, get_or_append_left, length-drop, length-take-le, take-append-le, take-set-le}
use Rattle.std.proofs.lemmas.List.Folds.{list_all-append}
use Rattle.drf_sorter.specs.declared.key.Key as made
use Rattle.drf_tree.proofs.Names.{Child, IsWith, are_sorted, is_before, is_not_behind, without_place}
use Rattle.drf_tree.proofs.keys.Siblings.{back_all, list_all-at, parted, sorted_insert, with_child}

-- ---- moving one element

module _ {X : Type 0} where
  last_of : (k : ℕ) (xs : List X) (d : X) → k < length xs → drop k (take (suc k) xs) ≡ slice_index_or xs k d ∷ []
  last_of k [] d below = absurd (omega (arith, below))
  last_of zero (x ∷ xs) d below = refl
  last_of (suc k) (x ∷ xs) d below = last_of k xs d (omega (arith, below))

  all_but_last : (k : ℕ) (xs : List X) → k < length xs → take k (take (suc k) xs) ≡ take k xs
  all_but_last k [] below = absurd (omega (arith, below))
  all_but_last zero (x ∷ xs) below = refl
  all_but_last (suc k) (x ∷ xs) below = ap (λ (ys : List X). x ∷ ys) (all_but_last k xs (omega (arith, below)))

  -- to an earlier position
  pub forward : (place k at : ℕ) (xs : List X) (d : X) → at ≡ place + k → at < length xs
      → take place xs ++ ((drop k (take (suc k) (drop place xs)) ++ take k (take (suc k) (drop place xs))) ++ drop (suc k) (drop place xs))
      ≡ take place (take at xs ++ drop (suc at) xs) ++ slice_index_or xs at d ∷ drop place (take at xs ++ drop (suc at) xs)
  forward place k at [] d is below = absurd (omega (arith, below))
  forward zero k at (x ∷ xs) d is below =
      let same : k ≡ at = omega (arith, is) in
      (λ i. (drop (same i) (take (suc (same i)) (x ∷ xs)) ++ take (same i) (take (suc (same i)) (x ∷ xs))) ++ drop (same i) xs)
      ∙ (λ i. (last_of at (x ∷ xs) d below i ++ all_but_last at (x ∷ xs) below i) ++ drop at xs)
  forward (suc place) k zero (x ∷ xs) d is below = absurd (omega (arith, is))
  forward (suc place) k (suc at) (x ∷ xs) d is below = ap (λ (ys : List X). x ∷ ys) (forward place k at xs d (omega (arith, is)) (omega (arith, below)))

  -- to a later position
  pub backward : (at k place : ℕ) (xs : List X) (d : X) → place ≡ at + k → place < length xs
      → take at xs ++ ((drop 1 (take (suc k) (drop at xs)) ++ take 1 (take (suc k) (drop at xs))) ++ drop (suc k) (drop at xs))
      ≡ take place (take at xs ++ drop (suc at) xs) ++ slice_index_or xs at d ∷ drop place (take at xs ++ drop (suc at) xs)
  backward at k place [] d is below = absurd (omega (arith, below))
  backward zero k place (x ∷ xs) d is below =
      let same : k ≡ place = omega (arith, is) in
      append_assoc (take k xs) (x ∷ []) (drop k xs) ∙ (λ i. take (same i) xs ++ x ∷ drop (same i) xs)
  backward (suc at) k zero (x ∷ xs) d is below = absurd (omega (arith, is))
  backward (suc at) k (suc place) (x ∷ xs) d is below = ap (λ (ys : List X). x ∷ ys) (backward at k place xs d (omega (arith, is)) (omega (arith, below)))

-- ---- the position where it belongs

-- if a child is not before a key, no later one is
pub behind : (children : List Child) (key : made.Key) (place : ℕ) → are_sorted children ≡ true → place < length children
    → ((d : Child) → is_before (slice_index_or children place d).key key ≡ false)
    → list_all (λ c. not (is_before c.key key)) (drop place children) ≡ true
behind children key place sorted below first =
    back_all (λ (c : Child). is_before c.key key) children place
    (λ k d low high. elim (cases_Bool (is_before (slice_index_or children k d).key key)) [
      | inl before ↦ elim (cases_lt place k) [
        | inl later ↦ absurd (true≢false (sym (parted children key sorted place k d (omega (arith, later)) high before) ∙ first d))
        | inr same ↦ ap (λ (j : ℕ). is_before (slice_index_or children j d).key key) (omega (arith, same, low)) ∙ first d
      ]
      | inr other ↦ other
    ])

-- both parts of a sorted family are sorted
pub sorted_prefix : (prefix back : List Child) → are_sorted (prefix ++ back) ≡ true → are_sorted prefix ≡ true
sorted_prefix [] back sorted = refl
sorted_prefix (c ∷ prefix) back sorted =
    let parts = and_parts (list_all (is_not_behind c) (prefix ++ back)) (are_sorted (prefix ++ back)) sorted in
    and_from (list_all (is_not_behind c) prefix) (are_sorted prefix)
    (and_parts (list_all (is_not_behind c) prefix) (list_all (is_not_behind c) back) (sym (list_all-append (is_not_behind c) prefix back) ∙ parts.0)).0
    (sorted_prefix prefix back parts.1)

pub sorted_back : (prefix back : List Child) → are_sorted (prefix ++ back) ≡ true → are_sorted back ≡ true
sorted_back [] back sorted = sorted
sorted_back (c ∷ prefix) back sorted =
    sorted_back prefix back (and_parts (list_all (is_not_behind c) (prefix ++ back)) (are_sorted (prefix ++ back)) sorted).1

-- the number of other children before a key
module _ (children : List Child) (at : ℕ) (key : made.Key) (small : at < length children) (sorted : are_sorted (without_place at children) ≡ true) where
  abbrev others : List Child
  others = without_place at children

  abbrev prefix : List Child
  prefix = take at children

  abbrev back : List Child
  back = drop (at + 1) children

  long : length prefix ≡ at
  long = length-take-le at children (omega (arith, small))

  pub rank-prefix_before : (place : ℕ) → place < at → list_all (λ c. is_before c.key key) (take place prefix) ≡ true
      → list_all (λ c. is_before c.key key) (take place others) ≡ true
  rank-prefix_before place less all =
      ap (list_all (λ (c : Child). is_before c.key key)) (take-append-le place prefix back (omega (arith, less, long))) ∙ all

  pub rank-prefix_after : (place : ℕ) → place < at → list_all (λ c. not (is_before c.key key)) (drop place prefix) ≡ true
      → list_all (λ c. not (is_before c.key key)) (drop place others) ≡ true
  rank-prefix_after place less all =
      behind others key place sorted (omega (arith, less, long, length-append prefix back))
      (λ d.
      ap (λ (c : Child). is_before c.key key)
      (get_or_append_left prefix back d place (omega (arith, less, long)) ∙ ap (λ (n : ℕ). slice_index_or prefix n d) (omega arith) ∙ sym (get_or-drop place prefix 0 d))
      ∙ not-true (is_before (slice_index_or (drop place prefix) 0 d).key key)
      (list_all-at (λ (c : Child). not (is_before c.key key)) (drop place prefix) 0 d (omega (arith, less, long, length-drop place prefix)) all))

  pub rank-back_before : (place : ℕ) → list_all (λ c. is_before c.key key) prefix ≡ true
      → list_all (λ c. is_before c.key key) (take place back) ≡ true → list_all (λ c. is_before c.key key) (take (at + place) others) ≡ true
  rank-back_before place prefixes backs =
      ap (λ (n : ℕ). list_all (λ (c : Child). is_before c.key key) (take (n + place) others)) (sym long)
      ∙ ap (list_all (λ (c : Child). is_before c.key key)) (take-append-add prefix back place)
      ∙ list_all-append (λ (c : Child). is_before c.key key) prefix (take place back)
      ∙ and_from (list_all (λ (c : Child). is_before c.key key) prefix) (list_all (λ (c : Child). is_before c.key key) (take place back)) prefixes backs

  pub rank-back_after : (place : ℕ) → list_all (λ c. not (is_before c.key key)) (drop place back) ≡ true
      → list_all (λ c. not (is_before c.key key)) (drop (at + place) others) ≡ true
  rank-back_after place backs =
      ap (λ (n : ℕ). list_all (λ (c : Child). not (is_before c.key key)) (drop (n + place) others)) (sym long)
      ∙ ap (list_all (λ (c : Child). not (is_before c.key key))) (drop-append-add prefix back place) ∙ backs

-- ---- moving it there

module _ (children : List Child) (at place : ℕ) (d : Child) where
  abbrev its_place : List Child
  its_place = take place (without_place at children) ++ slice_index_or children at d ∷ drop place (without_place at children)

  next : suc at ≡ at + 1
  next = omega arith

  from : (n : ℕ) → place ≤ at → at < length children → n ≡ at + 1 - place → length (take n (drop place children)) ≡ n
  from n less small is = length-take-le n (drop place children) (omega (arith, less, small, is, length-drop place children))

  pub turned_forward : (n : ℕ) (turned : List Child) → place < at → at < length children → n ≡ at + 1 - place
      → turned ≡ drop (length (take n (drop place children)) - 1) (take n (drop place children))
      ++ take (length (take n (drop place children)) - 1) (take n (drop place children))
      → take place children ++ (turned ++ drop n (drop place children)) ≡ its_place
  turned_forward n turned less small is turns =
      let k : ℕ = at - place in
      let last : length (take n (drop place children)) - 1 ≡ k = omega (arith, from n (omega (arith, less)) small is, is, less) in
      let more : n ≡ suc k = omega (arith, is, less) in
      ap (λ (t : List Child). take place children ++ (t ++ drop n (drop place children))) turns
      ∙ (λ i. take place children ++ ((drop (last i) (take (more i) (drop place children)) ++ take (last i) (take (more i) (drop place children))) ++ drop (more i) (drop place children)))
      ∙ forward place k at children d (omega (arith, less)) small
      ∙ (λ i. take place (take at children ++ drop (next i) children) ++ slice_index_or children at d ∷ drop place (take at children ++ drop (next i) children))

  pub turned_backward : (n : ℕ) (turned : List Child) → at ≤ place → place < length children → n ≡ place + 1 - at
      → turned ≡ drop 1 (take n (drop at children)) ++ take 1 (take n (drop at children))
      → take at children ++ (turned ++ drop n (drop at children)) ≡ its_place
  turned_backward n turned more small is turns =
      let k : ℕ = place - at in
      let all : n ≡ suc k = omega (arith, is, more) in
      ap (λ (t : List Child). take at children ++ (t ++ drop n (drop at children))) turns
      ∙ (λ i. take at children ++ ((drop 1 (take (all i) (drop at children)) ++ take 1 (take (all i) (drop at children))) ++ drop (all i) (drop at children)))
      ∙ backward at k place children d (omega (arith, more)) small
      ∙ (λ i. take place (take at children ++ drop (next i) children) ++ slice_index_or children at d ∷ drop place (take at children ++ drop (next i) children))

module _ (children new : List Child) (at place : ℕ) (is : (d : Child) → new ≡ its_place children at place d) where
  pub turned-put : (d : Child) → IsWith (slice_index_or children at d) (without_place at children) new
  turned-put d = subst (λ (cs : List Child). IsWith (slice_index_or children at d) (without_place at children) cs) (sym (is d))
      (with_child (without_place at children) (slice_index_or children at d) place)

  turned-sorted_at : (d : Child) → are_sorted (without_place at children) ≡ true
      → list_all (λ c. is_before c.key (slice_index_or children at d).key) (take place (without_place at children)) ≡ true
      → list_all (λ c. not (is_before c.key (slice_index_or children at d).key)) (drop place (without_place at children)) ≡ true → are_sorted new ≡ true
  turned-sorted_at d sorted before after =
      ap are_sorted (is d) ∙ sorted_insert (without_place at children) (slice_index_or children at d) place sorted before after

pub turned-sorted : (children new : List Child) (at place : ℕ) → at < length children → ((d : Child) → new ≡ its_place children at place d)
    → are_sorted (without_place at children) ≡ true
    → ((d : Child) → list_all (λ c. is_before c.key (slice_index_or children at d).key) (take place (without_place at children)) ≡ true)
    → ((d : Child) → list_all (λ c. not (is_before c.key (slice_index_or children at d).key)) (drop place (without_place at children)) ≡ true)
    → are_sorted new ≡ true
turned-sorted [] new at place small is sorted before after = absurd (omega (arith, small))
turned-sorted (c ∷ children) new at place small is sorted before after =
    turned-sorted_at (c ∷ children) new at place is c sorted (before c) (after c)

-- the child at the position can be another
module _ (children : List Child) (at : ℕ) where
  pub without-set : (child : Child) → without_place at (set children at child) ≡ without_place at children
  without-set child = λ i. take-set-le at children at child (omega arith) i ++ drop-set-lt (at + 1) children at child (omega arith) i

  pub without-next : take at children ++ drop (suc at) children ≡ without_place at children
  without-next =
      let next : suc at ≡ at + 1 = omega arith in
      λ i. take at children ++ drop (next i) children

-- the number of children stays the same
pub put-long : (children new : List Child) (at : ℕ) (child : Child) → at < length children → IsWith child (without_place at children) new → length new ≡ length children
put-long children new at child small put =
    omega (
      arith,
      small,
      ap length put.less_is,
      ap length put.more_is,
      length-append put.before put.after,
      length-append put.before (child ∷ put.after),
      length-append (take at children) (drop (at + 1) children),
      length-take-le at children (omega (arith, small)),
      length-drop (at + 1) children,
    )
