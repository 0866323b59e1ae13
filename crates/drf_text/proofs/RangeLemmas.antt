-- The numbers of ranges.
use Rattle.std.proofs.Common.{◌≡◌, ℕ, ◌<◌, ◌≤◌, Bool, true, false, cond, leb, ltb, List, [], ◌∷◌, map, Any, Some, None, Result, Ok, Err, refl, sym, ap, subst, ◌∙◌, arith, ◌&&◌, IsTrue, ◌↔◌}
use Rattle.std.proofs.lemmas.Bool.{and_parts, leb-true, lt-ltb, true≢false}
use Rattle.std.proofs.lemmas.Bool.Decides.{nat_tests}
use Rattle.std.proofs.lemmas.List.Folds.{list_any-from_Any}
use Rattle.std.specs.List.{list_all, list_any, flat_map}
use Rattle.std.specs.Option.{ok_or}
use Rattle.std.specs.Ordering.{nat_cmp}
use Rattle.std.specs.FinSet as set
use Rattle.drf_text.proofs.Names.{Text, IsMeaning, fault_of_ranges, low_of, high_of, is_end, is_range, TextFault, BadNumber}
use Rattle.drf_kinds.specs.declared.ranges.RangesFault.{RangesFault}
use Rattle.drf_kinds.specs.declared.ranges.RangesFault.TheVariants as ranges
use Rattle.drf_kinds.specs.Intervals.{members, numbers, interval_of, is_in}
use Rattle.drf_kinds.proofs.IntervalLaws.{contains-members, same_numbers, in_pairs}
use Rattle.drf_text.specs.Steps.{each_of, pair_in, numbers_between}
use Rattle.drf_text.proofs.Parts.{pair_of, each_tested, flat_map-map}

same_test : (a b : Bool) → (IsTrue a → IsTrue b) → (IsTrue b → IsTrue a) → a ≡ b
same_test true true to from = refl
same_test true false to from = sym (to refl)
same_test false true to from = from refl
same_test false false to from = refl

-- the set of the numbers of these pairs
pub numbers_of_pairs : (pairs : List (ℕ × ℕ)) (found : set.FinSet nat_cmp)
    → ((n : ℕ) → IsTrue (set.contains found n) ↔ Any (λ pair. (pair.0 ≤ n) × (n ≤ pair.1)) pairs)
    → found ≡ set.from_list (flat_map numbers_between pairs)
unfolding members
numbers_of_pairs pairs found has =
    same_numbers found (members (map interval_of pairs)) (λ n.
    let same = in_pairs pairs n (is_in (map interval_of pairs) n) refl in
    same_test (set.contains found n) (is_in (map interval_of pairs) n) (λ h. same.1 ((has n).0 h)) (λ h. (has n).1 (same.0 h))
    ∙ sym (contains-members (map interval_of pairs) n))
    ∙ ap set.from_list (flat_map-map numbers interval_of pairs)

-- ---- pairs that were read

pub pair_tested : (part : Text) → pair_in part ≡ cond (is_range part) (Ok (pair_of part)) (Err BadNumber)
unfolding pair_in
pair_tested part = by (is_range part)
  where
    by : (b : Bool) → ok_or (cond b (Some (pair_of part)) None) BadNumber ≡ cond b (Ok (pair_of part)) (Err BadNumber)
    by true = refl
    by false = refl

pub pairs_tested : (parts : List Text) → each_of pair_in parts ≡ cond (list_all is_range parts) (Ok (map pair_of parts)) (Err BadNumber)
pairs_tested parts = each_tested pair_in is_range pair_of BadNumber pair_tested parts

is_backwards : ℕ × ℕ → Bool
is_backwards pair = ltb pair.1 pair.0

none_at : (low high : ℕ) → low ≤ high → ltb high low ≡ false
none_at low high ordered = grind (arith, nat_tests)

none_are : (parts : List Text) → list_all is_range parts ≡ true → list_any is_backwards (map pair_of parts) ≡ false
unfolding is_backwards
none_are [] all = refl
none_are (part ∷ parts) all =
    let range = and_parts (is_range part) (list_all is_range parts) all in
    let pair = pair_of part in
    let ordered : pair.0 ≤ pair.1 = leb-true pair.0 pair.1 (and_parts (is_end (low_of part) && is_end (high_of part)) (leb pair.0 pair.1) range.0).1 in
    rw (none_at pair.0 pair.1 ordered) (none_are parts range.1)

none_backwards : (parts : List Text) → list_all is_range parts ≡ true → Any (λ pair. pair.1 < pair.0) (map pair_of parts) → ⊥
unfolding is_backwards
none_backwards parts all some =
    true≢false (sym (list_any-from_Any is_backwards (map pair_of parts) (some.0, some.1, some.2, some.3, lt-ltb _ _ some.4)) ∙ none_are parts all)

in_order_at : (parts : List Text) (pairs : List (ℕ × ℕ)) (b : Bool) → list_all is_range parts ≡ b
    → cond b (Ok (map pair_of parts)) (Err BadNumber) ≡ Ok pairs → Any (λ pair. pair.1 < pair.0) pairs → ⊥
in_order_at parts pairs true all read some =
    let same : map pair_of parts ≡ pairs = cc in none_backwards parts all (subst (Any (λ pair. pair.1 < pair.0)) (sym same) some)
in_order_at parts pairs false none read some = absurd (true≢false (apart read))
  where
    apart : ◌≡◌ {A = Result (List (ℕ × ℕ)) TextFault} (Err BadNumber) (Ok pairs) → true ≡ false
    apart e = cc

-- no pair that was read has its ends in the wrong order
pub in_order : (parts : List Text) (pairs : List (ℕ × ℕ)) → each_of pair_in parts ≡ Ok pairs → Any (λ pair. pair.1 < pair.0) pairs → ⊥
in_order parts pairs read = in_order_at parts pairs (list_all is_range parts) refl (sym (pairs_tested parts) ∙ read)

pub ranges_refused : {A : Type 0} (refused : RangesFault) (meaning : Result A TextFault) → (refused ≡ ranges.Backwards → ⊥)
    → IsMeaning (Err (fault_of_ranges refused)) meaning
ranges_refused ranges.Backwards meaning none = absurd (none refl)
ranges_refused ranges.Memory meaning none = λ known. absurd (known refl)
