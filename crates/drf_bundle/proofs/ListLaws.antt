-- Sums, counts and tests over lists of any type, and properties of each element.
use Rattle.std.specs.Prelude.{◌≡◌, ℕ, ◌+◌, ◌*◌, ◌≤◌, Bool, true, false, not, ◌&&◌, ◌||◌, List, [], ◌∷◌, ◌++◌, length, map, filter, find, flat_map, sum_by, slice_get}
use Rattle.std.specs.List.{list_any, list_all, count_by, AllByRecursion}
use Rattle.std.proofs.Common.{refl, sym, ap, subst, ◌∙◌, inl, inr, cond, zero, suc, arith, Some}
use Rattle.std.proofs.lemmas.Bool.{cases_Bool, or_left, or_right, or_cases, and_parts, not-true, false≢true}
use Rattle.std.proofs.lemmas.List.Sums.{sum_by-cons, sum_by-append, length-filter, count_by-le-length}
use Rattle.std.proofs.lemmas.Map.Views.{any-filter_same}

-- ---- sums

pub sum_by-map : {X Y : Type 0} (f : Y → ℕ) (g : X → Y) (xs : List X)
    → sum_by f (map g xs) ≡ sum_by (λ x. f (g x)) xs
sum_by-map f g [] = refl
sum_by-map f g (x ∷ xs) =
    omega (arith, sum_by-cons f (g x) (map g xs), sum_by-cons (λ x. f (g x)) x xs, sum_by-map f g xs)

pub sum_by-flat_map : {X Y : Type 0} (f : Y → ℕ) (g : X → List Y) (xs : List X)
    → sum_by f (flat_map g xs) ≡ sum_by (λ x. sum_by f (g x)) xs
sum_by-flat_map f g [] = refl
sum_by-flat_map f g (x ∷ xs) =
    omega (arith, sum_by-append f (g x) (flat_map g xs), sum_by-cons (λ x. sum_by f (g x)) x xs, sum_by-flat_map f g xs)

pub sum_by-plus : {X : Type 0} (f g : X → ℕ) (xs : List X)
    → sum_by (λ x. f x + g x) xs ≡ sum_by f xs + sum_by g xs
sum_by-plus f g [] = omega arith
sum_by-plus f g (x ∷ xs) =
    omega (arith, sum_by-cons f x xs, sum_by-cons g x xs, sum_by-cons (λ x. f x + g x) x xs, sum_by-plus f g xs)

pub sum_by_each_le : {X : Type 0} (f g : X → ℕ) (xs : List X)
    → AllByRecursion (λ x. f x ≤ g x) xs → sum_by f xs ≤ sum_by g xs
sum_by_each_le f g [] all = omega arith
sum_by_each_le f g (x ∷ xs) all =
    omega (arith, sum_by-cons f x xs, sum_by-cons g x xs, all.0, sum_by_each_le f g xs all.1)

pub sum_by_none : {X : Type 0} (xs : List X) → sum_by (λ x. 0) xs ≡ 0
sum_by_none [] = refl
sum_by_none {X} (x ∷ xs) = omega (arith, sum_by-cons {X = X} (λ x. 0) x xs, sum_by_none xs)

-- ---- the elements that pass a test

pub sum_by-filter-cons : {X : Type 0} (f : X → ℕ) (p : X → Bool) (x : X) (xs : List X)
    → sum_by f (filter p (x ∷ xs)) ≡ cond (p x) (f x) 0 + sum_by f (filter p xs)
sum_by-filter-cons f p x xs = elim (cases_Bool (p x)) [
  | inl here ↦ rw here (sum_by-cons f x (filter p xs))
  | inr past ↦ rw past (omega arith)
]

pub sum_by-filter : {X : Type 0} (f : X → ℕ) (p : X → Bool) (xs : List X)
    → sum_by f (filter p xs) ≡ sum_by (λ x. cond (p x) (f x) 0) xs
sum_by-filter f p [] = refl
sum_by-filter f p (x ∷ xs) =
    omega (arith, sum_by-filter-cons f p x xs, sum_by-cons (λ x. cond (p x) (f x) 0) x xs, sum_by-filter f p xs)

-- a number that is counted or not
pub cond_le : (b : Bool) (n : ℕ) → cond b n 0 ≤ n
cond_le true n = omega arith
cond_le false n = omega arith

-- if all elements that pass `p` agree on `q`, either all of them or none pass `q`
pub sum_by-as_one : {X : Type 0} (f : X → ℕ) (p q : X → Bool) (one : Bool) (xs : List X)
    → ((x : X) → p x ≡ true → q x ≡ one)
    → sum_by (λ x. cond (q x) (f x) 0) (filter p xs) ≡ cond one (sum_by f (filter p xs)) 0
sum_by-as_one f p q one [] all = either one 0
  where
    either : (b : Bool) (n : ℕ) → n ≡ cond b n n
    either true n = refl
    either false n = refl
sum_by-as_one {X} f p q one (x ∷ xs) all = elim (cases_Bool (p x)) [
  | inl here ↦ rw here (
      sum_by-cons (λ (x : X). cond (q x) (f x) 0) x (filter p xs)
      ∙ (λ i. cond (all x here i) (f x) 0 + sum_by-as_one f p q one xs all i)
      ∙ joined one (f x) (sum_by f (filter p xs))
      ∙ ap (λ (n : ℕ). cond one n 0) (sym (sum_by-cons f x (filter p xs))))
  | inr past ↦ rw past (sum_by-as_one f p q one xs all)
]
  where
    joined : (b : Bool) (m n : ℕ) → cond b m 0 + cond b n 0 ≡ cond b (m + n) 0
    joined true m n = refl
    joined false m n = omega arith

-- ---- two filters, in either order

pub filter-swap : {X : Type 0} (p q : X → Bool) (xs : List X) → filter p (filter q xs) ≡ filter q (filter p xs)
filter-swap p q [] = refl
filter-swap {X} p q (x ∷ xs) = elim (cases_Bool (p x)) [
  | inl one ↦ elim (cases_Bool (q x)) [
    | inl two ↦ rw (one, two, one) (ap (λ (ys : List X). x ∷ ys) (filter-swap p q xs))
    | inr two ↦ rw (one, two) (filter-swap p q xs)
  ]
  | inr one ↦ elim (cases_Bool (q x)) [
    | inl two ↦ rw (one, two, one) (filter-swap p q xs)
    | inr two ↦ rw (one, two) (filter-swap p q xs)
  ]
]

-- ---- counts

pub count_by-cons : {X : Type 0} (p : X → Bool) (x : X) (xs : List X)
    → count_by p (x ∷ xs) ≡ cond (p x) 1 0 + count_by p xs
count_by-cons p x xs = sum_by-cons (λ x. cond (p x) 1 0) x xs

-- the sum of the same amount for each element that passes a test
pub sum_by-cond : {X : Type 0} (p : X → Bool) (n : ℕ) (xs : List X)
    → sum_by (λ x. cond (p x) n 0) xs ≡ n * count_by p xs
sum_by-cond p n [] = omega arith
sum_by-cond p n (x ∷ xs) =
    sum_by-cons (λ x. cond (p x) n 0) x xs
    ∙ ap (λ (s : ℕ). cond (p x) n 0 + s) (sum_by-cond p n xs)
    ∙ at_once (p x) n (count_by p xs)
    ∙ ap (λ (c : ℕ). n * c) (sym (count_by-cons p x xs))
  where
    at_once : (b : Bool) (n c : ℕ) → cond b n 0 + n * c ≡ n * (cond b 1 0 + c)
    at_once true n c = grind arith
    at_once false n c = grind arith

pub count_by-any : {X : Type 0} (p : X → Bool) (xs : List X) → list_any p xs ≡ true → 1 ≤ count_by p xs
count_by-any p [] any = absurd (false≢true any)
count_by-any p (x ∷ xs) any = elim (or_cases (p x) (list_any p xs) any) [
  | inl here ↦ omega (arith, count_by-cons p x xs ∙ ap (λ (b : Bool). cond b 1 0 + count_by p xs) here)
  | inr later ↦ omega (arith, count_by-cons p x xs, count_by-any p xs later)
]

-- ---- elements by group

-- if each element belongs to one group, the sum over all elements is the sum of the sums over the groups
pub sum_by-groups : {X K : Type 0} (f : X → ℕ) (t : X → K → Bool) (keys : List K) (xs : List X)
    → AllByRecursion (λ x. count_by (t x) keys ≡ 1) xs
    → sum_by (λ k. sum_by f (filter (λ x. t x k) xs)) keys ≡ sum_by f xs
sum_by-groups f t keys [] all = sum_by_none keys
sum_by-groups {X} {K} f t keys (x ∷ xs) all =
    let later : K → ℕ = λ k. sum_by f (filter (λ x. t x k) xs) in
    let all_of : K → ℕ = λ k. sum_by f (filter (λ x. t x k) (x ∷ xs)) in
    let split : sum_by all_of keys ≡ sum_by (λ k. cond (t x k) (f x) 0 + later k) keys
    = λ i. sum_by (λ k. sum_by-filter-cons f (λ x. t x k) x xs i) keys in
    let mine : sum_by (λ k. cond (t x k) (f x) 0) keys ≡ f x
    = sum_by-cond (t x) (f x) keys ∙ ap (λ (c : ℕ). f x * c) all.0 ∙ omega arith in
    split
    ∙ sum_by-plus (λ k. cond (t x k) (f x) 0) later keys
    ∙ omega (arith, mine, sum_by-groups f t keys xs all.1, sum_by-cons f x xs)

-- ---- tests

pub list_any_at : {X : Type 0} (p : X → Bool) (xs : List X) (i : ℕ) (x : X)
    → slice_get xs i ≡ Some x → p x ≡ true → list_any p xs ≡ true
list_any_at p [] i x at passes = cc
list_any_at p (y ∷ ys) zero x at passes =
    let same : y ≡ x = cc in
    or_left (p y) (list_any p ys) (ap p same ∙ passes)
list_any_at p (y ∷ ys) (suc i) x at passes = or_right (p y) (list_any p ys) (list_any_at p ys i x at passes)

pub list_any-map : {X Y : Type 0} (p : Y → Bool) (g : X → Y) (xs : List X) → list_any p (map g xs) ≡ list_any (λ x. p (g x)) xs
list_any-map p g [] = refl
list_any-map p g (x ∷ xs) = ap (λ (b : Bool). p (g x) || b) (list_any-map p g xs)

-- a filter leaves none of the elements that it removes
pub none_left : {X : Type 0} (p : X → Bool) (xs : List X) → list_any p (filter (λ x. not (p x)) xs) ≡ false
none_left p xs = any-filter_same p (λ x. not (p x)) false (λ x here. ap not here) xs

-- a test with a part that does not depend on the element
pub list_any-both : {X : Type 0} (b : Bool) (p : X → Bool) (xs : List X)
    → list_any (λ x. b && p x) xs ≡ (b && list_any p xs)
list_any-both true p xs = refl
list_any-both false p [] = refl
list_any-both false p (x ∷ xs) = list_any-both false p xs

-- ---- keys that occur once, by a test for equality

abbrev pub none_has : {X K : Type 0} → (K → K → Bool) → (X → K) → K → List X → Bool
none_has same key k xs = list_all (λ t. not (same k t)) (map key xs)

pub count_none : {X K : Type 0} (same : K → K → Bool) (key : X → K) (k : K) (xs : List X)
    → none_has same key k xs ≡ true → count_by (λ x. same k (key x)) xs ≡ 0
count_none same key k [] none = refl
count_none same key k (x ∷ xs) none =
    let parts = and_parts (not (same k (key x))) (none_has same key k xs) none in
    count_by-cons (λ x. same k (key x)) x xs
    ∙ (λ i. cond (not-true (same k (key x)) parts.0 i) 1 0 + count_none same key k xs parts.1 i)

-- if no other element has the key of the first one, a key that occurs at most once among the others occurs at most once
-- in the whole list
pub count_once : {X K : Type 0} (same : K → K → Bool) (key : X → K) (k : K) (x : X) (xs : List X)
    → (same k (key x) ≡ true → k ≡ key x)
    → none_has same key (key x) xs ≡ true
    → count_by (λ x. same k (key x)) xs ≤ 1
    → count_by (λ x. same k (key x)) (x ∷ xs) ≤ 1
count_once {X} {K} same key k x xs equal none later =
    let first = count_by-cons (λ x. same k (key x)) x xs in
    elim (cases_Bool (same k (key x))) [
      | inl here ↦
          let others : none_has same key k xs ≡ true
          = subst (λ (t : K). none_has same key t xs ≡ true) (sym (equal here)) none in
          omega (arith, first ∙ (λ i. cond (here i) 1 0 + count_none same key k xs others i))
      | inr past ↦ omega (arith, first ∙ ap (λ (b : Bool). cond b 1 0 + count_by (λ x. same k (key x)) xs) past, later)
    ]

-- if no other element has its key, an element is the only one with it
pub only_none : {X K : Type 0} (same : K → K → Bool) (key : X → K) (a : X) (xs : List X)
    → none_has same key (key a) xs ≡ true → AllByRecursion (λ x. same (key a) (key x) ≡ true → x ≡ a) xs
only_none same key a [] none = tt
only_none same key a (x ∷ xs) none =
    let parts = and_parts (not (same (key a) (key x))) (none_has same key (key a) xs) none in
    let other : same (key a) (key x) ≡ false = not-true (same (key a) (key x)) parts.0 in
    (λ here. absurd (false≢true (sym other ∙ here)), only_none same key a xs parts.1)

pub none_has_at : {X K : Type 0} (same : K → K → Bool) (key : X → K) (k : K) (xs : List X) (i : ℕ) (a : X)
    → none_has same key k xs ≡ true → slice_get xs i ≡ Some a → same k (key a) ≡ false
none_has_at same key k [] i a none at = cc
none_has_at same key k (x ∷ xs) zero a none at =
    let parts = and_parts (not (same k (key x))) (none_has same key k xs) none in
    let this : x ≡ a = cc in
    ap (λ y. same k (key y)) (sym this) ∙ not-true (same k (key x)) parts.0
none_has_at same key k (x ∷ xs) (suc i) a none at =
    none_has_at same key k xs i a (and_parts (not (same k (key x))) (none_has same key k xs) none).1 at

-- ---- properties of each element

pub each_at : {X : Type 0} (P : X → Type 0) (xs : List X) (i : ℕ) (a : X)
    → AllByRecursion P xs → slice_get xs i ≡ Some a → P a
each_at P [] i a all at = cc
each_at {X} P (x ∷ xs) zero a all at =
    let same : x ≡ a = cc in
    subst P same all.0
each_at P (x ∷ xs) (suc i) a all at = each_at P xs i a all.1 at

pub each_from : {X : Type 0} (P R : X → Type 0) (xs : List X)
    → ((x : X) → P x → R x) → AllByRecursion P xs → AllByRecursion R xs
each_from P R [] so first = tt
each_from P R (x ∷ xs) so first = (so x first.0, each_from P R xs so first.1)

pub each_from_both : {X : Type 0} (P Q R : X → Type 0) (xs : List X)
    → ((x : X) → P x → Q x → R x) → AllByRecursion P xs → AllByRecursion Q xs → AllByRecursion R xs
each_from_both P Q R [] so first second = tt
each_from_both P Q R (x ∷ xs) so first second = (so x first.0 second.0, each_from_both P Q R xs so first.1 second.1)

pub each_append : {X : Type 0} (P : X → Type 0) (xs ys : List X)
    → AllByRecursion P xs → AllByRecursion P ys → AllByRecursion P (xs ++ ys)
each_append P [] ys first later = later
each_append P (x ∷ xs) ys first later = (first.0, each_append P xs ys first.1 later)

pub each_parts : {X : Type 0} (P : X → Type 0) (xs ys : List X)
    → AllByRecursion P (xs ++ ys) → AllByRecursion P xs × AllByRecursion P ys
each_parts P [] ys all = (tt, all)
each_parts P (x ∷ xs) ys all =
    let others = each_parts P xs ys all.1 in
    ((all.0, others.0), others.1)

pub each_map : {X Y : Type 0} (P : Y → Type 0) (g : X → Y) (xs : List X)
    → AllByRecursion (λ x. P (g x)) xs → AllByRecursion P (map g xs)
each_map P g [] all = tt
each_map P g (x ∷ xs) all = (all.0, each_map P g xs all.1)

-- if all results of a function have a property, so does each element of the mapped list
pub each_made : {X Y : Type 0} (P : Y → Type 0) (g : X → Y) (xs : List X) → ((x : X) → P (g x)) → AllByRecursion P (map g xs)
each_made P g [] made = tt
each_made P g (x ∷ xs) made = (made x, each_made P g xs made)

pub each_filter : {X : Type 0} (P : X → Type 0) (p : X → Bool) (xs : List X)
    → AllByRecursion P xs → AllByRecursion P (filter p xs)
each_filter P p [] all = tt
each_filter P p (x ∷ xs) all = elim (cases_Bool (p x)) [
  | inl here ↦ rw here (all.0, each_filter P p xs all.1)
  | inr past ↦ rw past (each_filter P p xs all.1)
]

-- the first element that passes a test
pub each_find : {X : Type 0} (P : X → Type 0) (p : X → Bool) (xs : List X) (x : X)
    → AllByRecursion P xs → find p xs ≡ Some x → P x
each_find P p [] x all found = cc
each_find {X} P p (y ∷ ys) x all found = by (each_find P p ys x all.1) (p y) found
  where
    by : (find p ys ≡ Some x → P x) → (b : Bool) → cond b (Some y) (find p ys) ≡ Some x → P x
    by later true here =
        let same : y ≡ x = cc in
        subst P same all.0
    by later false there = later there

-- if each element is the same as itself, each is found in the list
pub each_found : {X : Type 0} (same : X → X → Bool) (xs : List X) → ((x : X) → same x x ≡ true)
    → AllByRecursion (λ x. list_any (λ y. same y x) xs ≡ true) xs
each_found same [] itself = tt
each_found same (x ∷ xs) itself = (
  or_left (same x x) (list_any (λ y. same y x) xs) (itself x),
  each_from (λ z. list_any (λ y. same y z) xs ≡ true) (λ z. list_any (λ y. same y z) (x ∷ xs) ≡ true) xs
      (λ z found. or_right (same x z) (list_any (λ y. same y z) xs) found) (each_found same xs itself),
)

-- ---- one element that passes a test

pub each_true : {X : Type 0} (xs : List X) → AllByRecursion (λ x. ◌≡◌ {A = Bool} true true) xs
each_true [] = tt
each_true (x ∷ xs) = (refl, each_true xs)

pub each_fails : {X : Type 0} (p : X → Bool) (xs : List X) → list_all (λ x. not (p x)) xs ≡ true → AllByRecursion (λ x. p x ≡ false) xs
each_fails p [] all = tt
each_fails p (x ∷ xs) all =
    let parts = and_parts (not (p x)) (list_all (λ x. not (p x)) xs) all in
    (not-true (p x) parts.0, each_fails p xs parts.1)

pub filter_each : {X : Type 0} (p : X → Bool) (xs : List X) → AllByRecursion (λ x. p x ≡ true) xs → filter p xs ≡ xs
filter_each p [] each = refl
filter_each {X} p (x ∷ xs) each = rw each.0 (ap (λ (ys : List X). x ∷ ys) (filter_each p xs each.1))

-- at most all elements pass a test
pub length-filter_le : {X : Type 0} (p : X → Bool) (xs : List X) → length (filter p xs) ≤ length xs
length-filter_le p xs = omega (arith, length-filter p xs, count_by-le-length p xs)

pub filter-again : {X : Type 0} (p : X → Bool) (xs : List X) → filter p (filter p xs) ≡ filter p xs
filter-again p [] = refl
filter-again {X} p (x ∷ xs) = elim (cases_Bool (p x)) [
  | inl here ↦ rw (here, here) (ap (λ (ys : List X). x ∷ ys) (filter-again p xs))
  | inr past ↦ rw past (filter-again p xs)
]

pub any_fails : {X : Type 0} (p : X → Bool) (xs : List X) → AllByRecursion (λ x. p x ≡ false) xs → list_any p xs ≡ false
any_fails p [] each = refl
any_fails p (x ∷ xs) each = rw each.0 (any_fails p xs each.1)

module _ {X : Type 0} (p : X → Bool) (before later : List X) (x : X)
    (none : AllByRecursion (λ y. p y ≡ false) before) (passes : p x ≡ true) where
  -- the element is found
  pub find_only : find p (before ++ x ∷ later) ≡ Some x
  find_only = by before none
    where
      by : (ys : List X) → AllByRecursion (λ y. p y ≡ false) ys → find p (ys ++ x ∷ later) ≡ Some x
      by [] past = rw passes
      by (y ∷ ys) past = rw past.0 (by ys past.1)

  -- only this element is removed
  pub filter_only : AllByRecursion (λ y. p y ≡ false) later → filter (λ y. not (p y)) (before ++ x ∷ later) ≡ before ++ later
  filter_only rest = by before none
    where
      by : (ys : List X) → AllByRecursion (λ y. p y ≡ false) ys → filter (λ y. not (p y)) (ys ++ x ∷ later) ≡ ys ++ later
      by [] past = rw passes (filter_each (λ y. not (p y)) later (each_from (λ y. p y ≡ false) (λ y. not (p y) ≡ true) later (λ y other. ap not other) rest))
      by (y ∷ ys) past = rw past.0 (ap (λ (zs : List X). y ∷ zs) (by ys past.1))
