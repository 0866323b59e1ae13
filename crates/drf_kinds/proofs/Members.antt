-- The set of the numbers in intervals.
use Rattle.std.proofs.Common.{◌≡◌, ℕ, suc, zero, ◌+◌, ◌-◌, ◌<◌, ◌≤◌, ◌^◌, Bool, true, false, ◌&&◌, ◌||◌, List, [], ◌∷◌, ◌++◌, length, get_or, take, eqb, ltb, leb, inl, inr, refl, sym, ap, ◌∙◌, cond, arith}
use Rattle.std.specs.Prelude.{◌↔◌, IsTrue}
use Rattle.std.specs.List.{flat_map, range_with_len, sum_by}
use Rattle.std.specs.List.Sorted.{IsNonDecreasingBy, IsPartitionPoint}
use Rattle.std.specs.Ordering.{nat_cmp}
use Rattle.std.specs.Cmp.{nat_cmp_total}
use Rattle.std.specs.FinSet as set
use Rattle.std.proofs.Math.Bool.{and-false}
use Rattle.std.proofs.lemmas.Bool.{true≢false, le-leb, lt-leb, ne_eqb, ltb-true, ltb-false, both_ways, cases_lt, or_from}
use Rattle.std.proofs.lemmas.List.Folds.{list_any-append}
use Rattle.std.proofs.lemmas.List.Sums.{sum_by-cons, sum_by_more, sum_by-take-le}
use Rattle.drf_kinds.specs.declared.interval.Interval.{Interval}
use Rattle.drf_kinds.specs.Intervals.{members, numbers, is_in, AreMaximal, AreMaximalFrom, IsNumberSet}
use Rattle.drf_kinds.proofs.IntervalLaws.{in_range, in_all_numbers, contains-members, same_numbers}
use Rattle.drf_kinds.proofs.Steps.{none_below}

pub members_of-nil : members [] ≡ set.empty
members_of-nil = same_numbers (members []) set.empty (λ n. contains-members [] n ∙ sym (set.contains-empty nat_cmp n))

and_true_or : (x : Bool) → ((x && true) || false) ≡ x
and_true_or true = refl
and_true_or false = refl

-- maximal intervals have numbers below 2^32
below : (low : ℕ) (is : List Interval) (n : ℕ) → AreMaximalFrom low is → is_in is n ≡ true → n < 2 ^ 32
below low [] n maximal e = absurd (true≢false (sym e))
below low (i ∷ is) n maximal e =
    elim (cases_lt i.last n) [
      | inl above ↦ below (i.last + 2) is n maximal.3 (sym (rw (lt-leb n i.last above, and-false (leb i.first n))) ∙ e)
      | inr within ↦ omega (arith, maximal.2)
    ]

pub IsNumberSet-members : (is : List Interval) → AreMaximal is → IsNumberSet (members is)
IsNumberSet-members is maximal = record { each = λ n e. below 0 is n maximal (sym (contains-members is n) ∙ e) }

-- how many numbers an interval has
abbrev pub size_of : Interval → ℕ
size_of i = i.last + 1 - i.first

-- adding numbers that are not in a set raises its size by their count
len-range : (a k : ℕ) (ns : List ℕ) → ((n : ℕ) → a ≤ n → n < a + k → set.contains (set.from_list {R = nat_cmp} ns) n ≡ false) → set.len (set.from_list {R = nat_cmp} (range_with_len a k ++ ns)) ≡ k + set.len (set.from_list {R = nat_cmp} ns)
len-range a zero ns out = omega arith
len-range a (suc k) ns out =
    let later = len-range (a + 1) k ns (λ n h l. out n (omega arith) (omega arith)) in
    let new : set.contains (set.from_list {R = nat_cmp} (range_with_len (a + 1) k ++ ns)) a ≡ false =
    set.contains-from_list_nat (range_with_len (a + 1) k ++ ns) a
    ∙ list_any-append (λ y. eqb y a) (range_with_len (a + 1) k) ns
    ∙ or_from _ _ (in_range (a + 1) k a ∙ rw (lt-leb (a + 1) a (omega arith))) (sym (set.contains-from_list_nat ns a) ∙ out a (omega arith) (omega arith)) in
    set.len-insert nat_cmp_total (set.from_list (range_with_len (a + 1) k ++ ns)) a
    ∙ ap (λ x. cond x (set.len (set.from_list {R = nat_cmp} (range_with_len (a + 1) k ++ ns))) (set.len (set.from_list {R = nat_cmp} (range_with_len (a + 1) k ++ ns)) + 1)) new
    ∙ omega (arith, later)

len-numbers : (low : ℕ) (is : List Interval) → AreMaximalFrom low is → set.len (set.from_list {R = nat_cmp} (flat_map numbers is)) ≡ sum_by size_of is
len-numbers low [] maximal = set.len-empty nat_cmp
len-numbers low (i ∷ is) maximal =
    len-range i.first (size_of i) (flat_map numbers is)
    (λ n h l. set.contains-from_list_nat (flat_map numbers is) n ∙ in_all_numbers is n ∙ none_below (i.last + 2) is n maximal.3 (omega (arith, maximal.1)))
    ∙ ap (λ x. size_of i + x) (len-numbers (i.last + 2) is maximal.3)
    ∙ sym (sum_by-cons size_of i is)

sum_from : (low : ℕ) (is : List Interval) → AreMaximalFrom low is → low ≤ 2 ^ 32 + 1 → low + sum_by size_of is ≤ 2 ^ 32 + 1
sum_from low [] maximal small = omega arith
sum_from low (i ∷ is) maximal small =
    omega (arith, sum_by-cons size_of i is, sum_from (i.last + 2) is maximal.3 (omega (arith, maximal.2)), maximal.0, maximal.1)

pub sum_small : (is : List Interval) → AreMaximal is → sum_by size_of is ≤ 2 ^ 32 + 1
sum_small is maximal = omega (arith, sum_from 0 is maximal (omega arith))

-- the size of the set of maximal intervals is the sum of the sizes of the intervals
pub len-members : (is : List Interval) → AreMaximal is → set.len (members is) ≡ sum_by size_of is
unfolding members
len-members is maximal = len-numbers 0 is maximal

-- the last numbers of maximal intervals ascend
last_above : (low : ℕ) (is : List Interval) (k : ℕ) (d : Interval) → AreMaximalFrom low is → k < length is → low ≤ (get_or is k d).last
last_above low [] k d maximal h = absurd (omega arith)
last_above low (i ∷ is) zero d maximal h = omega (arith, maximal.0, maximal.1)
last_above low (i ∷ is) (suc k) d maximal h = omega (arith, maximal.0, maximal.1, last_above (i.last + 2) is k d maximal.3 (omega arith))

pub lasts_ascend : (low : ℕ) (is : List Interval) → AreMaximalFrom low is → IsNonDecreasingBy (λ i. i.last) is
lasts_ascend low [] maximal j k d h l = absurd (omega arith)
lasts_ascend low (i ∷ is) maximal zero zero d h l = omega arith
lasts_ascend low (i ∷ is) maximal zero (suc k) d h l = omega (arith, last_above (i.last + 2) is k d maximal.3 (omega arith))
lasts_ascend low (i ∷ is) maximal (suc j) zero d h l = absurd (omega arith)
lasts_ascend low (i ∷ is) maximal (suc j) (suc k) d h l = lasts_ascend (i.last + 2) is maximal.3 j k d (omega arith) (omega arith)

-- the first interval that does not end before n contains n, or none does
pub found_at : (low : ℕ) (is : List Interval) (n k : ℕ) (d : Interval) → AreMaximalFrom low is → IsPartitionPoint (λ i. ltb i.last n ≡ true) (λ i. ltb i.last n ≡ false) is k → k < length is → is_in is n ≡ leb (get_or is k d).first n
found_at low [] n k d maximal point h = absurd (omega arith)
found_at low (i ∷ is) n zero d maximal point h =
    let within : n ≤ i.last = ltb-false i.last n (point.1 0 d (omega arith) (omega arith)) in
    rw (le-leb n i.last within, none_below (i.last + 2) is n maximal.3 (omega arith)) (and_true_or (leb i.first n))
found_at low (i ∷ is) n (suc k) d maximal point h =
    let above : i.last < n = ltb-true i.last n (point.0 0 d (omega arith) (omega arith)) in
    rw (lt-leb n i.last above, and-false (leb i.first n))
    (found_at (i.last + 2) is n k d maximal.3 ((λ j e _ below. point.0 (suc j) e (omega arith) (omega arith)), (λ j e from below. point.1 (suc j) e (omega arith) (omega arith))) (omega arith))

pub not_found : (low : ℕ) (is : List Interval) (n k : ℕ) → AreMaximalFrom low is → IsPartitionPoint (λ i. ltb i.last n ≡ true) (λ i. ltb i.last n ≡ false) is k → length is ≤ k → is_in is n ≡ false
not_found low [] n k maximal point h = refl
not_found low (i ∷ is) n zero maximal point h = absurd (omega arith)
not_found low (i ∷ is) n (suc k) maximal point h =
    let above : i.last < n = ltb-true i.last n (point.0 0 i (omega arith) (omega arith)) in
    rw (lt-leb n i.last above, and-false (leb i.first n))
    (not_found (i.last + 2) is n k maximal.3 ((λ j e _ below. point.0 (suc j) e (omega arith) (omega arith)), (λ j e from below. point.1 (suc j) e (omega arith) (omega arith))) (omega arith))

pub ordered_at : (low : ℕ) (is : List Interval) (k : ℕ) (d : Interval) → AreMaximalFrom low is → k < length is → (get_or is k d).first ≤ (get_or is k d).last
ordered_at low [] k d maximal h = absurd (omega arith)
ordered_at low (i ∷ is) zero d maximal h = maximal.1
ordered_at low (i ∷ is) (suc k) d maximal h = ordered_at (i.last + 2) is k d maximal.3 (omega arith)

-- the sum of sizes with one more interval
pub size_more : (is : List Interval) (k : ℕ) (d : Interval) → AreMaximal is → k < length is → sum_by size_of (take (k + 1) is) ≡ sum_by size_of (take k is) + ((get_or is k d).last - (get_or is k d).first + 1)
size_more is k d maximal h = sum_by_more size_of is k d h ∙ ap (λ n. sum_by size_of (take k is) + n) (omega (arith, ordered_at 0 is k d maximal h))

pub size_small : (is : List Interval) (k : ℕ) → AreMaximal is → sum_by size_of (take k is) ≤ 2 ^ 32 + 1
size_small is k maximal = omega (arith, sum_by-take-le size_of is k, sum_small is maximal)

-- whether a set is empty
pub empty_answer : (is : List Interval) (s : set.FinSet nat_cmp) (empty : Bool) → AreMaximal is → members is ≡ s → empty ≡ eqb (length is) 0 → IsTrue empty ↔ (s ≡ set.empty)
empty_answer [] s empty maximal is_s empty_is = (λ _. sym is_s ∙ members_of-nil, λ _. empty_is)
empty_answer (i ∷ is) s empty maximal is_s empty_is = (
  λ e. absurd (both_ways empty (empty_is ∙ ne_eqb (length (i ∷ is)) 0 (λ none. omega arith)) e),
  λ none.
      let member : set.contains s i.first ≡ true = rw (← is_s) (contains-members (i ∷ is) i.first ∙ rw (le-leb i.first i.first (omega arith), le-leb i.first i.last (omega (arith, maximal.1)))) in
      absurd (both_ways _ (ap (λ x. set.contains x i.first) none ∙ set.contains-empty nat_cmp i.first) member),
)

-- the members of a set, in terms of its intervals
pub contains-view : (is js : List Interval) (s : set.FinSet nat_cmp) → js ≡ is → members is ≡ s → (n : ℕ) → set.contains s n ≡ is_in js n
contains-view is js s js_is s_is n = ap (λ t. set.contains t n) (sym s_is) ∙ contains-members is n ∙ ap (λ ks. is_in ks n) (sym js_is)
