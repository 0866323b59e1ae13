-- A set is the set of its members in ascending order, and a set of numbers is that of its maximal intervals.
use Rattle.std.specs.Prelude.{◌≡◌, ℕ, ◌+◌, ◌-◌, ◌<◌, ◌≤◌, ◌==◌, Bool, true, false, ◌||◌, T, Option, Some, None, is_some, ◌^◌, List, [], ◌∷◌, ◌++◌, map, if◌then◌else◌}
use Rattle.std.specs.List.{flat_map, range_with_len, list_any, AllByRecursion}
use Rattle.std.specs.List.Sorted.{IsStrictlySortedBy}
use Rattle.std.specs.declared.cmp.Ordering.{Ordering}
use Rattle.std.specs.declared.cmp.Ordering.TheVariants.{Less}
use Rattle.std.specs.Cmp.{IsTotalOrder, tied_itself, ranked, nat_cmp_total}
use Rattle.std.specs.Ordering.{nat_cmp, eq_by_cmp, is_lt, is_eq}
use Rattle.std.specs.FinSet as set
use Rattle.std.specs.FinMap as finite
use Rattle.std.specs.FinMap.{IsAntisymmetric, nat_cmp-IsAntisymmetric}
use Rattle.std.specs.FinMap.Entries.{find, below_all, is_sorted}
use Rattle.std.proofs.Common.{refl, sym, ap, subst, ◌∙◌, zero, suc, inl, inr, arith}
use Rattle.std.proofs.lemmas.Bool.{or_left, or_right, and_from, and_parts, cases_eq, lt-ltb, eq-eqb, ne_eqb}
use Rattle.drf_role.specs.TextLaws.{less_from_test}
use Rattle.drf_kinds.specs.declared.interval.Interval.{Interval}
use Rattle.drf_kinds.specs.Intervals.{numbers, members, IsNumberSet, AreMaximalFrom, AreMaximal}
use Rattle.drf_kinds.specs.Listed.{listed, with_number, runs_of, intervals_of}

-- ---- the set of an ascending list

true_of : (b : Bool) → T b → b ≡ true
true_of true is = refl
true_of false is = absurd is

is_marked : (b : Bool) → is_some (if b then Some (tt {0}) else None) ≡ b
is_marked true = refl
is_marked false = refl

module _ {K : Type 0} (R : K → K → Ordering) (total : IsTotalOrder R) (same : IsAntisymmetric R) where
  abbrev paired : List K → List (K × Unit {0})
  paired ks = map (λ k. (k, tt {0})) ks

  keys-paired : (ks : List K) → map (λ e. e.0) (paired ks) ≡ ks
  keys-paired [] = refl
  keys-paired (k ∷ ks) = ap (λ xs. k ∷ xs) (keys-paired ks)

  below-paired : (x : K) (ks : List K) → AllByRecursion (λ y. R x y ≡ Less) ks → below_all R x (paired ks) ≡ true
  below-paired x [] all = refl
  below-paired x (k ∷ ks) all = and_from (is_lt (R x k)) (below_all R x (paired ks)) (ap is_lt all.0) (below-paired x ks all.1)

  sorted-paired : (ks : List K) → IsStrictlySortedBy R ks → is_sorted R (paired ks) ≡ true
  unfolding IsStrictlySortedBy
  sorted-paired [] ascending = refl
  sorted-paired (k ∷ ks) ascending =
      and_from (below_all R k (paired ks)) (is_sorted R (paired ks)) (below-paired k ks ascending.0) (sorted-paired ks ascending.1)

  abbrev marked : Bool → Option (Unit {0})
  marked b = if b then Some (tt {0}) else None

  either : (a b : Bool) → ◌≡◌ {0} {A = Option (Unit {0})} (if a then Some (tt {0}) else marked b) (marked (a || b))
  either true b = refl
  either false b = refl

  find-paired : (ks : List K) (q : K) → find R q (paired ks) ≡ marked (list_any (eq_by_cmp R q) ks)
  find-paired [] q = refl
  find-paired (k ∷ ks) q =
      ap (λ (o : Option (Unit {0})). if eq_by_cmp R q k then Some (tt {0}) else o) (find-paired ks q)
      ∙ either (eq_by_cmp R q k) (list_any (eq_by_cmp R q) ks)

  -- the members of the set of an ascending list are this list
  pub listed-from_list : (ks : List K) → IsStrictlySortedBy R ks → listed (set.from_list {R = R} ks) ≡ ks
  unfolding listed
  listed-from_list ks ascending =
      let had : finite.FinMap R (Unit {0}) = finite.from_entries (paired (set.items (set.from_list {R = R} ks))) in
      let made : finite.FinMap R (Unit {0}) = finite.from_sorted (paired ks) in
      let sorted : T (is_sorted R (paired ks)) = subst T (sym (sorted-paired ks ascending)) tt in
      let members : (q : K) → list_any (eq_by_cmp R q) (set.items (set.from_list {R = R} ks)) ≡ list_any (eq_by_cmp R q) ks =
      λ q. sym (set.contains-items (set.from_list ks) q) ∙ set.contains-from_list total ks q in
      let one : had ≡ made = finite.same_map total same had made
      (λ q. finite.get-from_entries total (paired (set.items (set.from_list {R = R} ks))) q
      ∙ find-paired (set.items (set.from_list {R = R} ks)) q
      ∙ ap marked (members q)
      ∙ sym (finite.get-from_sorted R (paired ks) q sorted ∙ find-paired ks q)) in
      ap finite.keys one ∙ ap (map (λ (e : K × Unit {0}). e.0)) (finite.entries-from_sorted R (paired ks) sorted) ∙ keys-paired ks

  above-keys : (x : K) (es : List (K × Unit {0})) → below_all R x es ≡ true → AllByRecursion (λ y. R x y ≡ Less) (map (λ e. e.0) es)
  above-keys x [] all = tt
  above-keys x (e ∷ es) all =
      let parts = and_parts (is_lt (R x e.0)) (below_all R x es) all in
      (less_from_test (R x e.0) parts.0, above-keys x es parts.1)

  ascending-keys : (es : List (K × Unit {0})) → is_sorted R es ≡ true → IsStrictlySortedBy R (map (λ e. e.0) es)
  unfolding IsStrictlySortedBy
  ascending-keys [] sorted = tt
  ascending-keys (e ∷ es) sorted =
      let parts = and_parts (below_all R e.0 es) (is_sorted R es) sorted in
      (above-keys e.0 es parts.0, ascending-keys es parts.1)

  -- the members of any set are ascending, and the set is the set of its members
  pub ascending-listed : (s : set.FinSet R) → IsStrictlySortedBy R (listed s)
  unfolding listed
  ascending-listed s =
      let made : finite.FinMap R (Unit {0}) = finite.from_entries (paired (set.items s)) in
      ascending-keys (finite.entries made) (true_of (is_sorted R (finite.entries made)) (finite.entries_sorted made))

  pub from_list-listed : (s : set.FinSet R) → set.from_list (listed s) ≡ s
  unfolding listed
  from_list-listed s =
      let made : finite.FinMap R (Unit {0}) = finite.from_entries (paired (set.items s)) in
      set.same_set total same (set.from_list (finite.keys made)) s
      (λ q. set.contains-from_list total (finite.keys made) q
      ∙ sym (finite.contains_key-keys made q)
      ∙ ap is_some (finite.get-from_entries total (paired (set.items s)) q ∙ find-paired (set.items s) q)
      ∙ is_marked (list_any (eq_by_cmp R q) (set.items s))
      ∙ sym (set.contains-items s q))

-- ---- maximal intervals

abbrev Above : ℕ → List ℕ → Type 0
Above low ns = AllByRecursion (λ n. low ≤ n) ns

less_than : (a b : ℕ) → nat_cmp a b ≡ Less → a < b
less_than a b is = ranked a b Less (sym is)

above-less : (a : ℕ) (ns : List ℕ) → Above (a + 1) ns → AllByRecursion (λ n. nat_cmp a n ≡ Less) ns
above-less a [] all = tt
above-less a (n ∷ ns) all = (rw (lt-ltb a n (omega (arith, all.0))) refl, above-less a ns all.1)

above-range : (low a k : ℕ) (ns : List ℕ) → low ≤ a → Above low ns → Above low (range_with_len a k ++ ns)
above-range low a zero ns le all = all
above-range low a (suc k) ns le all = (le, above-range low (a + 1) k ns (omega (arith, le)) all)

above-weaker : (low lower : ℕ) (ns : List ℕ) → lower ≤ low → Above low ns → Above lower ns
above-weaker low lower [] le all = tt
above-weaker low lower (n ∷ ns) le all = (omega (arith, le, all.0), above-weaker low lower ns le all.1)

above-numbers : (low : ℕ) (is : List Interval) → AreMaximalFrom low is → Above low (flat_map numbers is)
above-numbers low [] maximal = tt
above-numbers low (i ∷ is) maximal =
    above-range low i.first (i.last + 1 - i.first) (flat_map numbers is) maximal.0
    (above-weaker (i.last + 2) low (flat_map numbers is) (omega (arith, maximal.0, maximal.1)) (above-numbers (i.last + 2) is maximal.3))

ascending-range : (a k : ℕ) (ns : List ℕ) → Above (a + k) ns → IsStrictlySortedBy nat_cmp ns
    → IsStrictlySortedBy nat_cmp (range_with_len a k ++ ns)
unfolding IsStrictlySortedBy
ascending-range a zero ns all ascending = ascending
ascending-range a (suc k) ns all ascending =
    let past : Above (a + 1 + k) ns = subst (λ n. Above n ns) (omega arith) all in (
      above-less a (range_with_len (a + 1) k ++ ns)
          (above-range (a + 1) (a + 1) k ns (omega arith) (above-weaker (a + 1 + k) (a + 1) ns (omega arith) past)),
      ascending-range (a + 1) k ns past ascending,
    )

ascending-numbers : (low : ℕ) (is : List Interval) → AreMaximalFrom low is → IsStrictlySortedBy nat_cmp (flat_map numbers is)
unfolding IsStrictlySortedBy
ascending-numbers low [] maximal = tt
ascending-numbers low (i ∷ is) maximal =
    ascending-range i.first (i.last + 1 - i.first) (flat_map numbers is)
    (above-weaker (i.last + 2) (i.first + (i.last + 1 - i.first)) (flat_map numbers is) (omega (arith, maximal.1)) (above-numbers (i.last + 2) is maximal.3))
    (ascending-numbers (i.last + 2) is maximal.3)

-- the numbers of an interval, added before intervals that begin later, make this interval
runs-range : (a k : ℕ) (ns : List ℕ) (is : List Interval) → runs_of ns ≡ is → AreMaximalFrom (a + k + 2) is
    → runs_of (range_with_len a (suc k) ++ ns) ≡ record { first = a; last = a + k } ∷ is
runs-range a zero ns [] same maximal = rw same (λ j. record { first = a; last = (let e : a ≡ a + 0 = omega arith in e) j } ∷ [])
runs-range a zero ns (i ∷ is) same maximal =
    let apart : (i.first == a + 1) ≡ _ = ne_eqb i.first (a + 1) (λ e. omega (arith, e, maximal.0)) in
    rw (same, apart) (λ j. record { first = a; last = (let e : a ≡ a + 0 = omega arith in e) j } ∷ i ∷ is)
runs-range a (suc k) ns is same maximal =
    let rest = runs-range (a + 1) k ns is same (subst (λ n. AreMaximalFrom n is) (omega arith) maximal) in
    let next : (a + 1 == a + 1) ≡ true = eq-eqb (a + 1) (a + 1) refl in
    let last : a + 1 + k ≡ a + suc k = omega arith in
    ap (with_number a) rest ∙ rw next (λ j. record { first = a; last = last j } ∷ is)

runs-numbers : (low : ℕ) (is : List Interval) → AreMaximalFrom low is → runs_of (flat_map numbers is) ≡ is
runs-numbers low [] maximal = refl
runs-numbers low (i ∷ is) maximal =
    let long : i.last + 1 - i.first ≡ suc (i.last - i.first) = omega (arith, maximal.1) in
    let end : i.first + (i.last - i.first) ≡ i.last = omega (arith, maximal.1) in
    ap (λ n. runs_of (range_with_len i.first n ++ flat_map numbers is)) long
    ∙ runs-range i.first (i.last - i.first) (flat_map numbers is) is (runs-numbers (i.last + 2) is maximal.3)
    (subst (λ n. AreMaximalFrom (n + 2) is) (sym end) maximal.3)
    ∙ (λ j. record { first = i.first; last = end j } ∷ is)

-- maximal intervals are the intervals of the set of their numbers
pub intervals_of-members : (is : List Interval) → AreMaximal is → intervals_of (members is) ≡ is
unfolding intervals_of members
intervals_of-members is maximal =
    ap runs_of (listed-from_list nat_cmp nat_cmp_total nat_cmp-IsAntisymmetric (flat_map numbers is) (ascending-numbers 0 is maximal))
    ∙ runs-numbers 0 is maximal

-- ---- the intervals of any set

-- numbers below 2^32
abbrev Below : List ℕ → Type 0
Below ns = AllByRecursion (λ n. n < 2 ^ 32) ns

-- a number added before intervals that begin later
maximal-with : (low n : ℕ) (is : List Interval) → low ≤ n → n < 2 ^ 32 → AreMaximalFrom (n + 1) is → AreMaximalFrom low (with_number n is)
maximal-with low n [] le small maximal = (le, omega arith, small, tt)
maximal-with low n (i ∷ is) le small maximal = elim (cases_eq i.first (n + 1)) [
  | inl next ↦ rw (eq-eqb i.first (n + 1) next) (le, omega (arith, next, maximal.1), maximal.2, maximal.3)
  | inr apart ↦ rw (ne_eqb i.first (n + 1) apart) (le, omega arith, small, (omega (arith, maximal.0, apart), maximal.1, maximal.2, maximal.3))
]

numbers-with : (n : ℕ) (is : List Interval) → AreMaximalFrom (n + 1) is → flat_map numbers (with_number n is) ≡ n ∷ flat_map numbers is
numbers-with n [] maximal = rw one refl
  where
    one : n + 1 - n ≡ suc zero
    one = omega arith
numbers-with n (i ∷ is) maximal = elim (cases_eq i.first (n + 1)) [
  | inl next ↦
      let long : i.last + 1 - n ≡ suc (i.last + 1 - i.first) = omega (arith, next, maximal.1) in
      rw (eq-eqb i.first (n + 1) next)
      (ap (λ k. range_with_len n k ++ flat_map numbers is) long
      ∙ ap (λ a. n ∷ range_with_len a (i.last + 1 - i.first) ++ flat_map numbers is) (sym next))
  | inr apart ↦
      let one : n + 1 - n ≡ suc zero = omega arith in
      rw (ne_eqb i.first (n + 1) apart) (ap (λ k. range_with_len n k ++ (numbers i ++ flat_map numbers is)) one)
]

above-from : (n : ℕ) (ns : List ℕ) → AllByRecursion (λ m. nat_cmp n m ≡ Less) ns → Above (n + 1) ns
above-from n [] all = tt
above-from n (m ∷ ns) all = (omega (arith, less_than n m all.0), above-from n ns all.1)

maximal-runs : (low : ℕ) (ns : List ℕ) → IsStrictlySortedBy nat_cmp ns → Above low ns → Below ns → AreMaximalFrom low (runs_of ns)
unfolding IsStrictlySortedBy
maximal-runs low [] ascending above below = tt
maximal-runs low (n ∷ ns) ascending above below =
    maximal-with low n (runs_of ns) above.0 below.0 (maximal-runs (n + 1) ns ascending.1 (above-from n ns ascending.0) below.1)

numbers-runs : (ns : List ℕ) → IsStrictlySortedBy nat_cmp ns → Below ns → flat_map numbers (runs_of ns) ≡ ns
unfolding IsStrictlySortedBy
numbers-runs [] ascending below = refl
numbers-runs (n ∷ ns) ascending below =
    numbers-with n (runs_of ns) (maximal-runs (n + 1) ns ascending.1 (above-from n ns ascending.0) below.1)
    ∙ ap (λ ms. n ∷ ms) (numbers-runs ns ascending.1 below.1)

each_found : (P : ℕ → Type 0) (ns : List ℕ) → ((n : ℕ) → list_any (eq_by_cmp nat_cmp n) ns ≡ true → P n) → AllByRecursion P ns
each_found P [] found = tt
each_found P (n ∷ ns) found = (
  found n (or_left (eq_by_cmp nat_cmp n n) (list_any (eq_by_cmp nat_cmp n) ns) (ap is_eq (tied_itself nat_cmp_total n))),
  each_found P ns (λ m later. found m (or_right (eq_by_cmp nat_cmp m n) (list_any (eq_by_cmp nat_cmp m) ns) later)),
)

below-listed : (s : set.FinSet nat_cmp) → IsNumberSet s → Below (listed s)
below-listed s given =
    each_found (λ n. n < 2 ^ 32) (listed s)
    (λ n found. given.each n (ap (λ (t : set.FinSet nat_cmp). set.contains t n) (sym (from_list-listed nat_cmp nat_cmp_total nat_cmp-IsAntisymmetric s))
    ∙ set.contains-from_list nat_cmp_total (listed s) n ∙ found))

-- the intervals of a set are maximal and have its numbers
pub maximal-intervals_of : (s : set.FinSet nat_cmp) → IsNumberSet s → AreMaximal (intervals_of s)
unfolding intervals_of
maximal-intervals_of s given =
    let ascending = ascending-listed nat_cmp nat_cmp_total nat_cmp-IsAntisymmetric s in
    maximal-runs 0 (listed s) ascending (each_found (λ n. 0 ≤ n) (listed s) (λ n found. omega arith)) (below-listed s given)

pub members-intervals_of : (s : set.FinSet nat_cmp) → IsNumberSet s → members (intervals_of s) ≡ s
unfolding intervals_of members
members-intervals_of s given =
    ap set.from_list (numbers-runs (listed s) (ascending-listed nat_cmp nat_cmp_total nat_cmp-IsAntisymmetric s) (below-listed s given))
    ∙ from_list-listed nat_cmp nat_cmp_total nat_cmp-IsAntisymmetric s
