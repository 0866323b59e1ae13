-- Merging intervals that are ordered by their first numbers.
use Rattle.std.proofs.Common.{◌≡◌, ◌≢◌, ℕ, suc, ◌+◌, ◌-◌, ◌<◌, ◌≤◌, ◌^◌, ◌&&◌, ◌||◌, List, [], ◌∷◌, ◌++◌, length, get_or, take, drop, take_all, max, leb, inl, inr, refl, sym, ap, ◌∙◌, arith}
use Rattle.std.specs.Prelude.{map}
use Rattle.std.specs.List.{All}
use Rattle.std.specs.List.Sorted.{IsNonDecreasingBy, IsPermutation}
use Rattle.std.proofs.Math.Bool.{or_assoc, or-false}
use Rattle.std.proofs.lemmas.Bool.{le-leb, lt-leb, cases_lt}
use Rattle.std.proofs.lemmas.List.{get_or_default}
use Rattle.std.proofs.lemmas.List.Elements.{All-map}
use Rattle.std.proofs.lemmas.List.Folds.{list_any_more}
use Rattle.std.proofs.lemmas.List.Sorted.{All-permutation, list_any-IsPermutation}
use Rattle.drf_kinds.specs.declared.interval.Interval.{Interval}
use Rattle.drf_kinds.specs.Intervals.{AreMaximal, is_in, is_within, interval_of}
use Rattle.drf_kinds.proofs.Found.{end_of, end_of-append, AreMaximal-append, is_in-append}

-- the numbers of the intervals so far are in the merged ones and in the open one, which later intervals can extend
pub record Merging (first : Interval) (rest : List Interval) (i : ℕ) (merged : List Interval) (open_one : Interval) : Type 0 where
  pub maximal : AreMaximal merged
  pub apart : end_of 0 merged ≤ open_one.first
  pub ordered : open_one.first ≤ open_one.last
  pub small : open_one.last < 2 ^ 32
  pub ahead : (k : ℕ) (d : Interval) → i ≤ k → k < length rest → open_one.first ≤ (get_or rest k d).first
  pub same : (n : ℕ) → (is_in merged n || is_within open_one n) ≡ is_in (first ∷ take i rest) n

-- one more interval
pub is_in_more : (first : Interval) (rest : List Interval) (i n : ℕ) (d : Interval) → i < length rest → is_in (first ∷ take (i + 1) rest) n ≡ (is_in (first ∷ take i rest) n || is_within (get_or rest i d) n)
is_in_more first rest i n d within =
    ap (λ b. is_within first n || b) (list_any_more (λ j. is_within j n) rest i d within)
    ∙ sym (or_assoc (is_within first n) (is_in (take i rest) n) (is_within (get_or rest i d) n))

-- two intervals that touch make one
pub touching : (a b n : ℕ) (x : Interval) → x.first ≤ a → a ≤ x.last + 1 → a ≤ b → is_within (record { first = x.first; last = max x.last b }) n ≡ (is_within x n || (leb a n && leb n b))
touching a b n x from touches ordered =
    elim (cases_lt n x.first) [
      | inl less ↦ rw (lt-leb x.first n less, lt-leb a n (omega arith))
      | inr more ↦
          rw (le-leb x.first n more)
          (elim (cases_lt x.last n) [
            | inr within ↦ rw (le-leb n x.last within, le-leb n (max x.last b) (omega arith))
            | inl above ↦
                rw (lt-leb n x.last above, le-leb a n (omega arith))
                (elim (cases_lt b n) [
                  | inr within ↦ rw (le-leb n b within, le-leb n (max x.last b) (omega arith))
                  | inl past ↦ rw (lt-leb n b past, lt-leb n (max x.last b) (omega arith))
                ])
          ])
    ]

-- the first interval and the others
abbrev pub prefix_of : List Interval → Interval
prefix_of is = get_or is 0 (record { first = 0; last = 0 })

abbrev pub rest_of : List Interval → List Interval
rest_of is = take (length is - 1) (drop 1 is)

pub prefix_rest : (is : List Interval) → length is ≢ 0 → is ≡ prefix_of is ∷ rest_of is
prefix_rest [] some = absurd (some refl)
prefix_rest (i ∷ is) some = ap (λ js. i ∷ js) (sym (take_all (length (i ∷ is) - 1) is (omega arith)))

-- what is true of the intervals after the first
pub sorted_rest : (first : Interval) (rest : List Interval) → IsNonDecreasingBy (λ j. j.first) (first ∷ rest) → IsNonDecreasingBy (λ j. j.first) rest
sorted_rest first rest sorted j k d h below = sorted (suc j) (suc k) d (omega arith) (omega arith)

pub first_least : (first : Interval) (rest : List Interval) → IsNonDecreasingBy (λ j. j.first) (first ∷ rest) → (k : ℕ) (d : Interval) → k < length rest → first.first ≤ (get_or rest k d).first
first_least first rest sorted k d below = sorted 0 (suc k) d (omega arith) (omega arith)

pub ordered_rest : (first : Interval) (rest : List Interval) → All (λ j. j.first ≤ j.last) (first ∷ rest) → (k : ℕ) (d : Interval) → k < length rest → (get_or rest k d).first ≤ (get_or rest k d).last
ordered_rest first rest ordered k d below = ordered (suc k) d (omega arith)

pub merging_start : (first : Interval) (rest : List Interval) → first.first ≤ first.last → first.last < 2 ^ 32 → ((k : ℕ) (d : Interval) → k < length rest → first.first ≤ (get_or rest k d).first) → Merging first rest 0 [] first
merging_start first rest ordered small ahead = record {
  maximal = tt;
  apart = omega arith;
  ordered = ordered;
  small = small;
  ahead = λ k d _ within. ahead k d within;
  same = λ n. sym (or-false (is_within first n));
}

-- the next interval touches the open one
pub merging_touch : (first : Interval) (rest : List Interval) (i : ℕ) (merged : List Interval) (open_one : Interval) (d : Interval) → Merging first rest i merged open_one → i < length rest →
    (get_or rest i d).first ≤ open_one.last + 1 → (get_or rest i d).first ≤ (get_or rest i d).last → (get_or rest i d).last < 2 ^ 32 →
    Merging first rest (i + 1) merged (record { first = open_one.first; last = max open_one.last (get_or rest i d).last })
merging_touch first rest i merged open_one d known within touches ordered small = record {
  maximal = known.maximal;
  apart = known.apart;
  ordered = omega (arith, known.ordered);
  small = omega (arith, known.small);
  ahead = λ k e from below. known.ahead k e (omega arith) below;
  same = λ n.
      ap (λ b. is_in merged n || b) (touching (get_or rest i d).first (get_or rest i d).last n open_one (known.ahead i d (omega arith) within) touches ordered)
      ∙ sym (or_assoc (is_in merged n) (is_within open_one n) (is_within (get_or rest i d) n))
      ∙ ap (λ b. b || is_within (get_or rest i d) n) (known.same n)
      ∙ sym (is_in_more first rest i n d within);
}

ahead_of : (rest : List Interval) (i k : ℕ) (d e : Interval) → IsNonDecreasingBy (λ j. j.first) rest → i + 1 ≤ k → k < length rest → (get_or rest i d).first ≤ (get_or rest k e).first
ahead_of rest i k d e sorted from below =
    rw (get_or_default rest k e d below) (sorted i k d (omega arith) below)

-- the next interval does not touch the open one
pub merging_apart : (first : Interval) (rest : List Interval) (i : ℕ) (merged : List Interval) (open_one : Interval) (d : Interval) → Merging first rest i merged open_one → i < length rest → IsNonDecreasingBy (λ j. j.first) rest →
    open_one.last + 1 < (get_or rest i d).first → (get_or rest i d).first ≤ (get_or rest i d).last → (get_or rest i d).last < 2 ^ 32 →
    Merging first rest (i + 1) (merged ++ open_one ∷ []) (get_or rest i d)
merging_apart first rest i merged open_one d known within sorted apart ordered small = record {
  maximal = AreMaximal-append 0 merged open_one known.maximal known.apart known.ordered known.small;
  apart = omega (arith, end_of-append 0 merged open_one);
  ordered = ordered;
  small = small;
  ahead = λ k e from below. ahead_of rest i k d e sorted from below;
  same = λ n.
      ap (λ b. b || is_within (get_or rest i d) n) (is_in-append merged open_one n ∙ known.same n)
      ∙ sym (is_in_more first rest i n d within);
}

-- no interval is left to merge
pub merged_all : (first : Interval) (rest : List Interval) (i : ℕ) (merged : List Interval) (open_one : Interval) → Merging first rest i merged open_one → length rest ≤ i → (n : ℕ) → is_in (merged ++ open_one ∷ []) n ≡ is_in (first ∷ rest) n
merged_all first rest i merged open_one known past n = is_in-append merged open_one n ∙ known.same n ∙ ap (λ is. is_in (first ∷ is) n) (take_all i rest past)

pub merged_maximal : (first : Interval) (rest : List Interval) (i : ℕ) (merged : List Interval) (open_one : Interval) → Merging first rest i merged open_one → AreMaximal (merged ++ open_one ∷ [])
merged_maximal first rest i merged open_one known = AreMaximal-append 0 merged open_one known.maximal known.apart known.ordered known.small

-- the intervals of ordered pairs, permuted
pub ordered_intervals : (pairs : List (ℕ × ℕ)) (is : List Interval) → IsPermutation (map interval_of pairs) is → All (λ pair. pair.0 ≤ pair.1) pairs → All (λ i. i.first ≤ i.last) is
ordered_intervals pairs is moved ordered = All-permutation (λ i. i.first ≤ i.last) (map interval_of pairs) is moved (All-map (λ i. i.first ≤ i.last) interval_of pairs ordered)

pub in_sorted : (pairs : List (ℕ × ℕ)) (is : List Interval) (n : ℕ) → IsPermutation (map interval_of pairs) is → is_in is n ≡ is_in (map interval_of pairs) n
in_sorted pairs is n moved = sym (list_any-IsPermutation (λ i. is_within i n) (map interval_of pairs) is moved)
