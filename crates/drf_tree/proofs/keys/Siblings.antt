-- Siblings stay in order when one is inserted or removed.
use Rattle.std.specs.declared.cmp.Ordering.{Ordering}
use Rattle.std.specs.declared.cmp.Ordering.TheVariants.{Equal, Greater, Less}
use Rattle.std.specs.Cmp.{IsTotalOrder, IsStrictWeakOrder, nat_cmp_total}
use Rattle.std.specs.Cmp.Lexicographic.{nat_list_cmp_total}
use Rattle.std.specs.List.{AllWithin, list_all, position}
use Rattle.std.specs.Option.{is_some}
use Rattle.std.specs.List.Sorted.{IsPartitionedBy, IsSorted}
use Rattle.std.specs.Ordering.{is_lt, nat_cmp, ordering_then}
use Rattle.std.specs.String.{string_bytes}
use Rattle.std.proofs.Common.{refl, sym, ap, ◌∙◌, inl, inr, arith, ◌≡◌, ◌≤◌, ◌<◌, ℕ, zero, suc, Bool, true, false, not, ◌&&◌, cond, List, [], ◌∷◌, ◌++◌, Option, None, Some, ◌==◌, length, map, take, drop, slice_get, slice_index_or, take-append-drop}
use Rattle.drf_row_laws.proofs.ReleaseLaws.{split_at}
use Rattle.std.proofs.lemmas.Bool.{true≢false, cases_Bool, and_from, and_parts, eqb-true, not-true}
use Rattle.std.proofs.lemmas.Cmp.{then_total, on_total}
use Rattle.std.proofs.lemmas.List.MinMax.{ranks_by}
use Rattle.std.proofs.lemmas.List.Sorted.{sorted_far}
use Rattle.std.proofs.lemmas.List.Quantifiers.{position-Some}
use Rattle.std.proofs.lemmas.Option.{slice_get_read}
use Rattle.drf_sorter.specs.declared.key.Key as made
use Rattle.drf_tree.proofs.Names.{key_by, key_cmp, Child, IsWith, are_sorted, has_child, is_before, is_not_behind, seen}
use Rattle.drf_bundle.proofs.theorems.ListLaws.{position-none}
use Rattle.drf_sorter.specs.laws.ShareLaws.{share_total}

-- ---- the order of keys

abbrev key_order : made.Key → made.Key → Ordering
key_order a b = key_cmp (key_by a) (key_by b)

key_total : IsTotalOrder key_order
key_total =
    then_total (on_total (λ (k : made.Key). k.share) share_total)
    (then_total (on_total (λ (k : made.Key). k.count) nat_cmp_total)
    (on_total (λ (k : made.Key). string_bytes k.name) nat_list_cmp_total))

keys_rank : IsStrictWeakOrder is_before
keys_rank = ranks_by key_total (λ (k : made.Key). k)

-- ---- one element more or fewer

pub list_all-insert : {X : Type 0} (p : X → Bool) (xs ys : List X) (x : X) → p x ≡ true → list_all p (xs ++ ys) ≡ true
    → list_all p (xs ++ x ∷ ys) ≡ true
list_all-insert p [] ys x here all = and_from (p x) (list_all p ys) here all
list_all-insert p (y ∷ xs) ys x here all =
    let parts = and_parts (p y) (list_all p (xs ++ ys)) all in
    and_from (p y) (list_all p (xs ++ x ∷ ys)) parts.0 (list_all-insert p xs ys x here parts.1)

pub list_all-remove : {X : Type 0} (p : X → Bool) (xs ys : List X) (x : X) → list_all p (xs ++ x ∷ ys) ≡ true
    → list_all p (xs ++ ys) ≡ true
list_all-remove p [] ys x all = (and_parts (p x) (list_all p ys) all).1
list_all-remove p (y ∷ xs) ys x all =
    let parts = and_parts (p y) (list_all p (xs ++ x ∷ ys)) all in
    and_from (p y) (list_all p (xs ++ ys)) parts.0 (list_all-remove p xs ys x parts.1)

pub list_all-at : {X : Type 0} (p : X → Bool) (xs : List X) (i : ℕ) (d : X) → i < length xs → list_all p xs ≡ true
    → p (slice_index_or xs i d) ≡ true
list_all-at p [] i d below all = absurd (omega (arith, below))
list_all-at p (x ∷ xs) zero d below all = (and_parts (p x) (list_all p xs) all).0
list_all-at p (x ∷ xs) (suc i) d below all =
    list_all-at p xs i d (omega (arith, below)) (and_parts (p x) (list_all p xs) all).1

-- ---- families

pub sorted_without : (before after : List Child) (child : Child) → are_sorted (before ++ child ∷ after) ≡ true
    → are_sorted (before ++ after) ≡ true
sorted_without [] after child sorted = (and_parts (list_all (is_not_behind child) after) (are_sorted after) sorted).1
sorted_without (x ∷ before) after child sorted =
    let parts =
    and_parts (list_all (is_not_behind x) (before ++ child ∷ after)) (are_sorted (before ++ child ∷ after)) sorted in
    and_from (list_all (is_not_behind x) (before ++ after)) (are_sorted (before ++ after))
    (list_all-remove (is_not_behind x) before after child parts.0) (sorted_without before after child parts.1)

pub sorted_with : (before after : List Child) (child : Child) → are_sorted (before ++ after) ≡ true
    → list_all (λ c. is_before c.key child.key) before ≡ true
    → list_all (λ c. not (is_before c.key child.key)) after ≡ true → are_sorted (before ++ child ∷ after) ≡ true
sorted_with [] after child sorted prefix back =
    and_from (list_all (is_not_behind child) after) (are_sorted after) back sorted
sorted_with (x ∷ before) after child sorted prefix back =
    let parts = and_parts (list_all (is_not_behind x) (before ++ after)) (are_sorted (before ++ after)) sorted in
    let prefixes =
    and_parts (is_before x.key child.key) (list_all (λ (c : Child). is_before c.key child.key) before) prefix in
    let ahead : is_not_behind x child ≡ true = ap not (keys_rank.one_way x.key child.key prefixes.0) in
    and_from (list_all (is_not_behind x) (before ++ child ∷ after)) (are_sorted (before ++ child ∷ after))
    (list_all-insert (is_not_behind x) before after child ahead parts.0)
    (sorted_with before after child parts.1 prefixes.1 back)

-- sorting puts the children in order
abbrev pub child_order : Child → Child → Ordering
child_order a b = ordering_then (key_order a.key b.key) (nat_cmp a.node b.node)

child_total : IsTotalOrder child_order
child_total = then_total (on_total (λ (c : Child). c.key) key_total) (on_total (λ (c : Child). c.node) nat_cmp_total)

key_first : (o p : Ordering) → is_lt (ordering_then o p) ≡ false → not (is_lt o) ≡ true
key_first Less p other = absurd (true≢false other)
key_first Equal p other = refl
key_first Greater p other = refl

list_all-each : {X : Type 0} (p : X → Bool) (xs : List X) → ((i : ℕ) (d : X) → i < length xs → p (slice_index_or xs i d) ≡ true)
    → list_all p xs ≡ true
list_all-each p [] each = refl
list_all-each p (x ∷ xs) each =
    and_from (p x) (list_all p xs) (each zero x (omega arith)) (list_all-each p xs (λ i d below. each (suc i) d (omega (arith, below))))

sorted_pairs : (cs : List Child)
    → ((i j : ℕ) (d : Child) → i < j → j < length cs → is_not_behind (slice_index_or cs i d) (slice_index_or cs j d) ≡ true)
    → are_sorted cs ≡ true
sorted_pairs [] pairs = refl
sorted_pairs (c ∷ cs) pairs =
    and_from (list_all (is_not_behind c) cs) (are_sorted cs)
    (list_all-each (is_not_behind c) cs (λ i d below. pairs zero (suc i) d (omega arith) (omega (arith, below))))
    (sorted_pairs cs (λ i j d order below. pairs (suc i) (suc j) d (omega (arith, order)) (omega (arith, below))))

pub sorted_anew : (cs : List Child) → IsSorted child_order cs → are_sorted cs ≡ true
sorted_anew cs sorted =
    sorted_pairs cs
    (λ i j d order below.
    key_first (key_order (slice_index_or cs j d).key (slice_index_or cs i d).key)
    (nat_cmp (slice_index_or cs j d).node (slice_index_or cs i d).node)
    (sorted_far (λ a b. is_lt (child_order a b)) (ranks_by child_total (λ (c : Child). c)) cs sorted i j d (omega (arith, order)) below))

-- fewer than two children are in order
pub sorted_few : (cs : List Child) → length cs ≤ 1 → are_sorted cs ≡ true
sorted_few [] few = refl
sorted_few (c ∷ []) few = refl
sorted_few (c ∷ d ∷ cs) few = absurd (omega (arith, few))

-- in a sorted family, the children before a key come first
pub parted : (children : List Child) (key : made.Key) → are_sorted children ≡ true
    → IsPartitionedBy (λ c. is_before c.key key) children
parted [] key sorted i j d order below before = absurd (omega (arith, below))
parted (x ∷ xs) key sorted zero zero d order below before = before
parted (x ∷ xs) key sorted zero (suc j) d order below before =
    let parts = and_parts (list_all (is_not_behind x) xs) (are_sorted xs) sorted in
    let y : Child = slice_index_or xs j d in
    elim (cases_Bool (is_before x.key key)) [
      | inl ahead ↦ ahead
      | inr other ↦
          let apart : not (is_before y.key x.key) ≡ true = list_all-at (is_not_behind x) xs j d (omega (arith, below)) parts.0 in
          let far = keys_rank.chain y.key x.key key (not-true (is_before y.key x.key) apart) other in
          absurd (true≢false (sym before ∙ far))
    ]
parted (x ∷ xs) key sorted (suc i) zero d order below before = absurd (omega (arith, order))
parted (x ∷ xs) key sorted (suc i) (suc j) d order below before =
    parted xs key (and_parts (list_all (is_not_behind x) xs) (are_sorted xs) sorted).1 i j d (omega (arith, order))
    (omega (arith, below)) before

-- the result of `partition_point`, as two lists
pub prefix_all : {X : Type 0} (p : X → Bool) (xs : List X) (i : ℕ) → i ≤ length xs → AllWithin (λ x. p x ≡ true) xs 0 i
    → list_all p (take i xs) ≡ true
prefix_all p [] zero below all = refl
prefix_all p [] (suc i) below all = absurd (omega (arith, below))
prefix_all p (x ∷ xs) zero below all = refl
prefix_all p (x ∷ xs) (suc i) below all =
    and_from (p x) (list_all p (take i xs)) (all zero x (omega arith) (omega arith))
    (prefix_all p xs i (omega (arith, below)) (λ k d low high. all (suc k) d (omega arith) (omega (arith, high))))

none_at : {X : Type 0} (p : X → Bool) (xs : List X) → AllWithin (λ x. p x ≡ false) xs 0 (length xs)
    → list_all (λ x. not (p x)) xs ≡ true
none_at p [] all = refl
none_at p (x ∷ xs) all =
    and_from (not (p x)) (list_all (λ y. not (p y)) xs) (ap not (all zero x (omega arith) (omega arith)))
    (none_at p xs (λ k d low high. all (suc k) d (omega arith) (omega (arith, high))))

pub back_all : {X : Type 0} (p : X → Bool) (xs : List X) (i : ℕ) → AllWithin (λ x. p x ≡ false) xs i (length xs)
    → list_all (λ x. not (p x)) (drop i xs) ≡ true
back_all p [] zero all = refl
back_all p [] (suc i) all = refl
back_all p (x ∷ xs) zero all = none_at p (x ∷ xs) all
back_all p (x ∷ xs) (suc i) all = back_all p xs i (λ k d low high. all (suc k) d (omega (arith, low)) (omega (arith, high)))

-- ---- one child more or fewer

module _ (children : List Child) (child : Child) (place : ℕ) where
  pub with_child : IsWith child children (take place children ++ child ∷ drop place children)
  with_child = record {
    before = take place children;
    after = drop place children;
    less_is = sym (take-append-drop place children);
    more_is = refl;
  }

  pub sorted_insert : are_sorted children ≡ true → list_all (λ c. is_before c.key child.key) (take place children) ≡ true
      → list_all (λ c. not (is_before c.key child.key)) (drop place children) ≡ true
      → are_sorted (take place children ++ child ∷ drop place children) ≡ true
  sorted_insert sorted prefix back =
      sorted_with (take place children) (drop place children) child
      (ap are_sorted (take-append-drop place children) ∙ sorted) prefix back

  -- the children are in order, whether or not memory ran out
  pub sorted_tried : (b : Bool) → are_sorted children ≡ true
      → list_all (λ c. is_before c.key child.key) (take place children) ≡ true
      → list_all (λ c. not (is_before c.key child.key)) (drop place children) ≡ true
      → are_sorted (cond b (take place children ++ child ∷ drop place children) children) ≡ true
  sorted_tried true sorted prefix back = sorted_insert sorted prefix back
  sorted_tried false sorted prefix back = sorted

  -- this child is at that position
  pub without_child : slice_get children place ≡ Some child
      → IsWith child (take place children ++ drop (suc place) children) children
  without_child at = record {
    before = take place children;
    after = drop (suc place) children;
    less_is = refl;
    more_is = split_at children place child at;
  }

  pub sorted_remove : slice_get children place ≡ Some child → are_sorted children ≡ true
      → are_sorted (take place children ++ drop (suc place) children) ≡ true
  sorted_remove at sorted =
      sorted_without (take place children) (drop (suc place) children) child
      (ap are_sorted (sym (split_at children place child at)) ∙ sorted)

-- a child of the family has a position
pub found_place : (node : ℕ) (children : List Child) → has_child node children ≡ true → (o : Option ℕ)
    → o ≡ position (λ c. c.node == node) children → is_some o ≡ true
found_place node children some (Some i) is = refl
found_place node children some None is =
    absurd (true≢false (sym some ∙ position-none (λ (c : Child). c.node == node) children is))

-- the child at that position is the one that was looked for
pub child_found : (node : ℕ) (children : List Child) (o : Option ℕ) (place : ℕ) (child : Child)
    → o ≡ position (λ c. c.node == node) children → o ≡ Some place → child ≡ slice_index_or children place child
    → (slice_get children place ≡ Some child) × (child.node ≡ node)
child_found node children o place child is some at =
    let found = position-Some (λ (c : Child). c.node == node) children place child (sym is ∙ some) in
    let here : (child.node == node) ≡ true = ap (λ (c : Child). c.node == node) at ∙ found.1 in
    (slice_get_read children (length children) place child refl found.0 at, eqb-true child.node node here)

-- ---- copies

-- the order of a family depends only on its keys
not_behind_seen : (a b : Child) (old new : List Child) → seen a ≡ seen b → map seen old ≡ map seen new
    → list_all (is_not_behind a) old ≡ list_all (is_not_behind b) new
not_behind_seen a b [] [] here later = refl
not_behind_seen a b [] (d ∷ new) here later = absurd cc
not_behind_seen a b (c ∷ old) [] here later = absurd cc
not_behind_seen a b (c ∷ old) (d ∷ new) here later =
    let first : seen c ≡ seen d = cc in
    let rest : map seen old ≡ map seen new = cc in
    λ i. not (is_lt (key_cmp (first i).0 (here i).0)) && not_behind_seen a b old new here rest i

pub sorted_seen : (old new : List Child) → map seen old ≡ map seen new → are_sorted old ≡ are_sorted new
sorted_seen [] [] same = refl
sorted_seen [] (b ∷ new) same = absurd cc
sorted_seen (a ∷ old) [] same = absurd cc
sorted_seen (a ∷ old) (b ∷ new) same =
    let first : seen a ≡ seen b = cc in
    let rest : map seen old ≡ map seen new = cc in
    λ i. not_behind_seen a b old new first rest i && sorted_seen old new rest i
