-- What a search by key finds, and what a change at that place does.
use Rattle.std.specs.Prelude.{◌≡◌, ℕ, ◌+◌, ◌<◌, ◌≤◌, ◌^◌, true, false, not, List, [], ◌∷◌, length, Some, None, IsTrue}
use Rattle.std.proofs.Common.{zero, suc, Less, Equal, Greater, Result, Ok, Err, IfOk, IfErr, get_or, set, refl, sym, ap, ◌∙◌, subst, inl, inr, arith}
use Rattle.std.specs.Cmp.{IsTotalOrder, then_flip}
use Rattle.std.specs.Cmp.Lexicographic.{slice_cmp, nat_list_cmp_total}
use Rattle.std.specs.Ordering.{nat_cmp, is_lt, is_ne, ordering_then, ordering_reverse, ordering_index}
use Rattle.std.specs.List.{insert}
use Rattle.std.specs.List.Sorted.{IsSearchInRange, IsBinarySearchResult, IsNonDecreasingBy}
use Rattle.std.proofs.lemmas.Bool.{and_parts, cases_lt}
use Rattle.std.proofs.lemmas.List.Recursion.{and_at}
use Rattle.std.proofs.lemmas.List.Sorted.{searchable_from_sorted}
use Rattle.drf_role.specs.Text.{Text, same_text}
use Rattle.drf_role.specs.Path.{Path, same_path}
use Rattle.drf_role.specs.PathLaws.{same_path-true}
use Rattle.drf_role.specs.TextLaws.{less_from_test, cmp_itself, same_from_test}
use Rattle.drf_bundle.specs.Bundle.{Key, key_of, key_cmp, key_below, reservation, same_key, is_in_order, stock, HasSums, value_at, both_of, merged}
use Rattle.drf_bundle.specs.laws.KeyLaws.{cases_key, key_trans, key_less, key_greater, key_equal, same_key_itself, below_other, Has, stands_first}
use Rattle.drf_bundle.proofs.theorems.KeyLaws.{above_other}
use Rattle.drf_bundle.specs.laws.JoinLaws.{merged-empty}
use Rattle.drf_bundle.proofs.theorems.SumLaws.{amount-kept}
use Rattle.drf_bundle.specs.laws.FitLaws.{stock_has}
use Rattle.drf_bundle.specs.Quantities.{amount_of}
use Rattle.drf_bundle.specs.Value.{Thousandths, units_in}
use Rattle.drf_bundle.specs.declared.quantities.Entry.{Entry}
use Rattle.drf_bundle.specs.KeyPlaces.{IsKeyAt, IsKeyFreeSlot}
use Rattle.drf_bundle.specs.declared.resource.Resource.{Resource}

less_from_below : (k l : Key) → IsTrue (key_below k l) → key_cmp k l ≡ Less
less_from_below k l below = less_from_test (key_cmp k l) below

key_cmp_total : IsTotalOrder key_cmp
key_cmp_total = record {
  antisymm = λ k l.
      (λ i. ordering_then (nat_list_cmp_total.antisymm k.0 l.0 i) (nat_list_cmp_total.antisymm k.1 l.1 i))
      ∙ then_flip (slice_cmp nat_cmp l.0 k.0) (slice_cmp nat_cmp l.1 k.1);
  trans = λ k l m first second. less_from_below k m (key_trans k l m (key_less k l first) (key_less l m second));
  congr = λ k l m equal. ap (λ (n : Key). key_cmp n m) (key_equal k l equal);
}

-- a resource comes before each later one
first_at : (key : Key) (rs : List Resource) (k : ℕ) (d : Resource) → IsTrue (stands_first key rs) → k < length rs
    → IsTrue (key_below key (key_of (get_or rs k d)))
first_at key rs k d first in_range = and_at (stands_first key) (λ r. key_below key (key_of r)) refl (λ _ _. refl) rs k d in_range first

pub in_order_at : (rs : List Resource) (i j : ℕ) (d : Resource) → IsTrue (is_in_order rs) → i < j → j < length rs
    → IsTrue (key_below (key_of (get_or rs i d)) (key_of (get_or rs j d)))
in_order_at [] i j d ordered later in_range = absurd (omega arith)
in_order_at (r ∷ rs) i zero d ordered later in_range = absurd (omega arith)
in_order_at (r ∷ rs) zero (suc j) d ordered later in_range = first_at (key_of r) rs j d (and_parts (stands_first (key_of r) rs) (is_in_order rs) ordered).0 (omega arith)
in_order_at (r ∷ rs) (suc i) (suc j) d ordered later in_range = in_order_at rs i j d (and_parts (stands_first (key_of r) rs) (is_in_order rs) ordered).1 (omega arith) (omega arith)

-- the resource at an index is one of them
has_at : (rs : List Resource) (i : ℕ) (r : Resource) → i < length rs → r ≡ get_or rs i r → Has rs r
has_at [] i r in_range is = absurd (omega arith)
has_at (s ∷ ss) zero r in_range is = inl (sym is)
has_at (s ∷ ss) (suc i) r in_range is = inr (has_at ss i r (omega arith) is)

before_later : (s r : Resource) (ss : List Resource) → IsTrue (stands_first (key_of s) ss) → Has ss r
    → IsTrue (key_below (key_of s) (key_of r))
before_later s r [] first has = absurd has
before_later s r (t ∷ ts) first (inl is) = subst (λ (u : Resource). IsTrue (key_below (key_of s) (key_of u))) is (and_parts (key_below (key_of s) (key_of t)) (stands_first (key_of s) ts) first).0
before_later s r (t ∷ ts) first (inr later) = before_later s r ts (and_parts (key_below (key_of s) (key_of t)) (stands_first (key_of s) ts) first).1 later

-- in a list in order, the value at the key of a resource is its value
value_of_its_own : (rs : List Resource) (r : Resource) → IsTrue (is_in_order rs) → Has rs r
    → value_at rs (key_of r) ≡ Some r.value
value_of_its_own [] r ordered has = absurd has
value_of_its_own (s ∷ ss) r ordered (inl is) =
    subst (λ (t : Resource). value_at (s ∷ ss) (key_of t) ≡ Some t.value) is (rw (same_key_itself (key_of s)) refl)
value_of_its_own (s ∷ ss) r ordered (inr later) =
    let parts = and_parts (stands_first (key_of s) ss) (is_in_order ss) ordered in
    rw (above_other (key_of s) (key_of r) (before_later s r ss parts.0 later)) (value_of_its_own ss r parts.1 later)

no_value : (rs : List Resource) (key : Key) → ((r : Resource) → Has rs r → same_key key (key_of r) ≡ false)
    → value_at rs key ≡ None
no_value [] key other = refl
no_value (s ∷ ss) key other = rw (other s (inl refl)) (no_value ss key (λ r later. other r (inr later)))

-- the index of a resource
pub has_index : (rs : List Resource) (r : Resource) → Has rs r → (i : ℕ) × (i < length rs) × (r ≡ get_or rs i r)
has_index [] r has = absurd has
has_index (s ∷ ss) r (inl is) = (0, omega arith, sym is)
has_index (s ∷ ss) r (inr later) = let at = has_index ss r later in (suc at.0, omega (arith, at.1), at.2)

module _ (rs : List Resource) (key : Key) (ordered : IsTrue (is_in_order rs)) where
  comparisons_rise : IsNonDecreasingBy (λ r. ordering_index (key_cmp (key_of r) key)) rs
  comparisons_rise = searchable_from_sorted key_cmp_total key_of rs key
      (λ k d low high.
      let earlier = key_of (get_or rs k d) in
      let later = key_of (get_or rs (k + 1) d) in
      ap is_lt (key_cmp_total.antisymm later earlier ∙ ap ordering_reverse (less_from_below earlier later (in_order_at rs k (k + 1) d ordered (omega arith) high))))

  -- a binary search by key ends at the key, or at the place where it would be inserted
  pub searched : (r : Result ℕ ℕ) → IsSearchInRange r (length rs)
      → IsBinarySearchResult (λ s. key_cmp (key_of s) key) rs r
      → record { found : IfOk r (IsKeyAt rs key); absent : IfErr r (IsKeyFreeSlot rs key) }
  searched (Ok at) in_range equal = record { found = record { in_range = in_range; has_key = λ d. key_equal (key_of (get_or rs at d)) key (equal d) }; absent = tt }
  searched (Err at) in_range parted = record {
    found = tt;
    absent = record {
      in_range = in_range;
      below_before = λ k d lt. key_less (key_of (get_or rs k d)) key ((parted comparisons_rise).0 k d (omega arith) lt);
      above_after = λ k d le lt. key_greater (key_of (get_or rs k d)) key ((parted comparisons_rise).1 k d le lt);
    };
  }

  pub found_value : (at : ℕ) (r : Resource) → IsKeyAt rs key at → r ≡ get_or rs at r → Some r.value ≡ value_at rs key
  found_value at r is read =
      let keys : key_of r ≡ key = ap key_of read ∙ is.has_key r in
      sym (value_of_its_own rs r ordered (has_at rs at r is.in_range read)) ∙ ap (value_at rs) keys

  pub nothing_found : (at : ℕ) → IsKeyFreeSlot rs key at → None ≡ value_at rs key
  nothing_found at free_slot = sym (no_value rs key other)
    where
      other : (r : Resource) → Has rs r → same_key key (key_of r) ≡ false
      other r has =
          let i = has_index rs r has in
          subst (λ (s : Resource). same_key key (key_of s) ≡ false) (sym i.2) (elim (cases_lt i.0 at) [
            | inl before ↦ above_other (key_of (get_or rs i.0 r)) key (free_slot.below_before i.0 r before)
            | inr after ↦ below_other key (key_of (get_or rs i.0 r)) (free_slot.above_after i.0 r after i.1)
          ])

-- ---- inserting a resource

key_above : (k l : Key) → IsTrue (key_below k l) → key_cmp l k ≡ Greater
key_above k l below = key_cmp_total.antisymm l k ∙ ap ordering_reverse (less_from_below k l below)

key_itself : (k : Key) → key_cmp k k ≡ Equal
key_itself k = rw (cmp_itself k.0, cmp_itself k.1) refl

-- keys that do not compare as equal are different
pub ne_is : (k l : Key) → is_ne (key_cmp k l) ≡ not (same_key k l)
ne_is k l = elim (cases_key k l) [
  | inl less ↦ ap is_ne less ∙ ap not (sym (below_other k l (key_less k l less)))
  | inr (inl equal) ↦ ap is_ne equal ∙ ap not (sym (subst (λ (m : Key). same_key k m ≡ true) (key_equal k l equal) (same_key_itself k)))
  | inr (inr greater) ↦ ap is_ne greater ∙ ap not (sym (above_other l k (key_greater k l greater)))
]

-- if the sum of the name is small enough with the resource, so is the scalar at its key
pub small_at : (rs : List Resource) (sums : List Entry) (r had : Resource) (i : ℕ) → HasSums rs sums → IsKeyAt rs (key_of r) i
    → had ≡ get_or rs i had → amount_of sums r.label + units_in r.value Thousandths < 2 ^ 64
    → units_in had.value Thousandths + units_in r.value Thousandths < 2 ^ 64
small_at rs sums r had i kept at read small =
    let keys : key_of had ≡ key_of r = ap key_of read ∙ at.has_key had in
    let there : units_in had.value Thousandths ≤ stock rs r.label Thousandths =
    subst (λ (t : Text). units_in had.value Thousandths ≤ stock rs t Thousandths) (λ j. (keys j).0) (stock_has rs had Thousandths (has_at rs i had at.in_range read)) in
    omega (arith, small, amount-kept rs sums r.label kept, there)

-- if the key exists, the two resources are united
pub merged_at : (rs : List Resource) (r had : Resource) (i : ℕ) → IsTrue (is_in_order rs) → IsKeyAt rs (key_of r) i
    → had ≡ get_or rs i had → merged rs (r ∷ []) ≡ set rs i (both_of had r)
merged_at [] r had i ordered at read = absurd (omega (arith, at.in_range))
merged_at (s ∷ ss) r had zero ordered at read =
    let equal : key_cmp (key_of s) (key_of r) ≡ Equal = subst (λ (k : Key). key_cmp (key_of s) k ≡ Equal) (at.has_key had) (key_itself (key_of s)) in
    let step : merged (s ∷ ss) (r ∷ []) ≡ both_of s r ∷ ss = rw equal (ap (λ (l : List Resource). both_of s r ∷ l) (merged-empty ss)) in
    step ∙ ap (λ (x : Resource). both_of x r ∷ ss) (sym read)
merged_at (s ∷ ss) r had (suc i) ordered at read =
    let parts = and_parts (stands_first (key_of s) ss) (is_in_order ss) ordered in
    let tail : IsKeyAt ss (key_of r) i = record { in_range = omega (arith, at.in_range); has_key = at.has_key } in
    let below : IsTrue (key_below (key_of s) (key_of r)) = subst (λ (k : Key). IsTrue (key_below (key_of s) k)) (at.has_key had) (first_at (key_of s) ss i had parts.0 tail.in_range) in
    rw (less_from_below (key_of s) (key_of r) below) (ap (λ (l : List Resource). s ∷ l) (merged_at ss r had i parts.1 tail read))

-- if it does not, the resource is inserted at its place
pub merged_in_free_slot : (rs : List Resource) (r : Resource) (i : ℕ) → IsKeyFreeSlot rs (key_of r) i
    → merged rs (r ∷ []) ≡ insert rs i r
merged_in_free_slot [] r zero free_slot = refl
merged_in_free_slot [] r (suc i) free_slot = absurd (omega (arith, free_slot.in_range))
merged_in_free_slot (s ∷ ss) r zero free_slot =
    rw (key_above (key_of r) (key_of s) (free_slot.above_after 0 s (omega arith) (omega arith))) (ap (λ (l : List Resource). r ∷ s ∷ l) (merged-empty ss))
merged_in_free_slot (s ∷ ss) r (suc i) free_slot =
    let tail : IsKeyFreeSlot ss (key_of r) i = record {
      in_range = omega (arith, free_slot.in_range);
      below_before = λ k d lt. free_slot.below_before (suc k) d (omega arith);
      above_after = λ k d le lt. free_slot.above_after (suc k) d (omega arith) (omega arith);
    } in
    rw (less_from_below (key_of s) (key_of r) (free_slot.below_before 0 s (omega arith))) (ap (λ (l : List Resource). s ∷ l) (merged_in_free_slot ss r i tail))

-- a resource with this name and role at an index has the key there
pub key_here : (rs : List Resource) (i : ℕ) (r : Resource) (label : Text) (role : Path) → i < length rs → ((d : Resource) → r ≡ get_or rs i d) → same_text r.label label ≡ true → same_path r.role role ≡ true
    → IsKeyAt rs (label, reservation role) i
key_here rs i r label role in_range at same_label same_role = record {
  in_range = in_range;
  has_key = λ d. ap key_of (sym (at d))
      ∙ (λ j. (same_from_test r.label label same_label j, reservation (same_path-true r.role role same_role j)));
}
