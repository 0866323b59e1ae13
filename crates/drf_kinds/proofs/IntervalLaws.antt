-- The numbers in intervals.
use Rattle.std.proofs.Common.{◌≡◌, ℕ, suc, zero, ◌+◌, ◌-◌, ◌≤◌, Bool, ◌&&◌, ◌||◌, List, [], ◌∷◌, map, eqb, ltb, leb, Any, inl, inr, refl, sym, ap, ◌∙◌, arith}
use Rattle.std.specs.Prelude.{◌↔◌, IsTrue}
use Rattle.std.specs.List.{flat_map, range_with_len, list_any}
use Rattle.std.specs.Ordering.{nat_cmp}
use Rattle.std.specs.Cmp.{nat_cmp_total}
use Rattle.std.specs.FinSet as set
use Rattle.std.proofs.lemmas.Bool.{le-leb, lt-leb, le-ltb, lt-ltb, eq-eqb, ne_eqb, leb-true, and_parts, and_from, cases_lt, cases_eq}
use Rattle.std.proofs.lemmas.List.Folds.{list_any-append, Any-from_list_any, list_any-from_Any}
use Rattle.drf_kinds.specs.declared.interval.Interval.{Interval}
use Rattle.drf_kinds.specs.Intervals.{members, numbers, interval_of, is_in, is_within}

-- the k numbers from a on
pub in_range : (a k n : ℕ) → list_any (λ y. eqb y n) (range_with_len a k) ≡ (leb a n && ltb n (a + k))
in_range a zero n =
    elim (cases_lt n a) [
      | inl less ↦ rw (lt-leb a n less)
      | inr more ↦ rw (le-leb a n more, le-ltb n (a + 0) (omega arith))
    ]
in_range a (suc k) n =
    elim (cases_lt n a) [
      | inl less ↦ rw (ne_eqb a n (λ e. omega arith), in_range (a + 1) k n, lt-leb (a + 1) n (omega arith), lt-leb a n less)
      | inr more ↦
          elim (cases_eq a n) [
            | inl same ↦ rw (eq-eqb a n same, le-leb a n more, lt-ltb n (a + suc k) (omega arith))
            | inr other ↦ rw (ne_eqb a n other, in_range (a + 1) k n, le-leb (a + 1) n (omega arith), le-leb a n more) (ap (λ m. ltb n m) (omega arith))
          ]
    ]

-- the numbers of an interval
in_numbers : (i : Interval) (n : ℕ) → list_any (λ y. eqb y n) (numbers i) ≡ is_within i n
in_numbers i n =
    in_range i.first (i.last + 1 - i.first) n
    ∙ elim (cases_lt n i.first) [
      | inl less ↦ rw (lt-leb i.first n less)
      | inr more ↦
          rw (le-leb i.first n more)
          (elim (cases_lt i.last n) [
            | inl above ↦ rw (lt-leb n i.last above, le-ltb n (i.first + (i.last + 1 - i.first)) (omega arith))
            | inr within ↦ rw (le-leb n i.last within, lt-ltb n (i.first + (i.last + 1 - i.first)) (omega arith))
          ])
    ]

pub in_all_numbers : (is : List Interval) (n : ℕ) → list_any (λ y. eqb y n) (flat_map numbers is) ≡ is_in is n
in_all_numbers [] n = refl
in_all_numbers (i ∷ is) n = list_any-append (λ y. eqb y n) (numbers i) (flat_map numbers is) ∙ rw (in_numbers i n, in_all_numbers is n)

-- the members are the numbers in an interval
pub contains-members : (is : List Interval) (n : ℕ) → set.contains (members is) n ≡ is_in is n
unfolding members
contains-members is n = set.contains-from_list_nat (flat_map numbers is) n ∙ in_all_numbers is n

-- sets of numbers with the same members are equal
pub same_numbers : (a b : set.FinSet nat_cmp) → ((n : ℕ) → set.contains a n ≡ set.contains b n) → a ≡ b
same_numbers a b each = set.same_set nat_cmp_total set.nat_cmp-IsAntisymmetric a b each

is_in-pairs : (pairs : List (ℕ × ℕ)) (n : ℕ) → is_in (map interval_of pairs) n ≡ list_any (λ pair. is_within (interval_of pair) n) pairs
is_in-pairs [] n = refl
is_in-pairs (pair ∷ pairs) n = ap (λ b. is_within (interval_of pair) n || b) (is_in-pairs pairs n)

-- whether a number is in one of the pairs
pub in_pairs : (pairs : List (ℕ × ℕ)) (n : ℕ) (b : Bool) → b ≡ is_in (map interval_of pairs) n → IsTrue b ↔ Any (λ pair. (pair.0 ≤ n) × (n ≤ pair.1)) pairs
in_pairs pairs n b is = (
  λ e.
      let found = Any-from_list_any (λ pair. is_within (interval_of pair) n) pairs (sym (is_in-pairs pairs n) ∙ sym is ∙ e) in
      let both = and_parts (leb found.1.0 n) (leb n found.1.1) found.4 in
      (found.0, found.1, found.2, found.3, (leb-true found.1.0 n both.0, leb-true n found.1.1 both.1)),
  λ found.
      is ∙ is_in-pairs pairs n
      ∙ list_any-from_Any (λ pair. is_within (interval_of pair) n) pairs (found.0, found.1, found.2, found.3, and_from (leb found.1.0 n) (leb n found.1.1) (le-leb found.1.0 n found.4.0) (le-leb n found.1.1 found.4.1)),
)
