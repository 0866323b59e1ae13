-- The first resource of a name: where it is inserted, and that nothing refuses it.
use Rattle.std.specs.Prelude.{◌≡◌, ℕ, ◌+◌, ◌-◌, ◌&&◌, slice_get, Bool, false, List, [], ◌∷◌, length, None, Some, IsTrue, IfSome, not}
use Rattle.std.specs.List.{list_any}
use Rattle.std.specs.List.Sorted.{IsSearchInRange, IsBinarySearchResult, IsNonDecreasingBy}
use Rattle.std.specs.Ordering.{nat_cmp, is_lt, ordering_reverse, ordering_index}
use Rattle.std.specs.Result.{result_err}
use Rattle.std.specs.Cmp.Lexicographic.{slice_cmp, nat_list_cmp_total}
use Rattle.std.proofs.Common.{Result, Ok, Err, get_or, refl, sym, ap, ◌∙◌, subst, inl, inr, cond, arith}
use Rattle.std.proofs.lemmas.Bool.{cases_lt}
use Rattle.std.proofs.lemmas.Bool.Decides.{nat_tests}
use Rattle.std.proofs.lemmas.List.Sorted.{searchable_from_sorted}
use Rattle.drf_amount.specs.declared.algebra.AlgebraFault.TheVariants as fault
use Rattle.std.proofs.lemmas.Option.{get_or_from_slice_get}
use Rattle.drf_role.specs.Text.{Text, same_text, text_below}
use Rattle.drf_role.specs.TextLaws.{below_trans, cmp_itself, cmp_below, below_from_cmp, above_from_cmp}
use Rattle.drf_role.proofs.TextLaws.{below_other, above_other}
use Rattle.drf_bundle.specs.Value.{Point, Thousandths, IsGiven, is_same_kind, share_members}
use Rattle.drf_bundle.proofs.theorems.ValueLaws.{units-most}
use Rattle.drf_bundle.specs.Bundle.{Key, key_of, same_key, is_in_order, stock}
use Rattle.drf_bundle.specs.laws.KeyLaws.{cases_below, below_from_name, Has, where-cons, unit-none}
use Rattle.drf_bundle.specs.laws.SumLaws.{of_name}
use Rattle.drf_bundle.specs.KeyPlaces.{IsKeyFreeSlot, IsNameFreeSlot}
use Rattle.drf_bundle.specs.Union.{has_other_kind, is_reserved_elsewhere, is_too_much, union_refusal}
use Rattle.drf_bundle.specs.declared.resource.Resource.{Resource}
use Rattle.drf_bundle.proofs.SearchLemmas.{in_order_at, has_index}

module _ (rs : List Resource) (name : Text) (ordered : IsTrue (is_in_order rs)) where
  comparisons_rise : IsNonDecreasingBy (λ r. ordering_index (slice_cmp nat_cmp r.label name)) rs
  comparisons_rise = searchable_from_sorted nat_list_cmp_total (λ r. r.label) rs name
      (λ k d low high.
      let earlier = get_or rs k d in
      let later = get_or rs (k + 1) d in
      elim (cases_below (key_of earlier) (key_of later) (in_order_at rs k (k + 1) d ordered (omega arith) high)) [
        | inl less ↦ ap is_lt (nat_list_cmp_total.antisymm later.label earlier.label ∙ ap ordering_reverse less)
        | inr same ↦ ap is_lt (ap (λ (t : Text). slice_cmp nat_cmp later.label t) same.0 ∙ cmp_itself later.label)
      ])

  -- a search by name that finds nothing ends at the place where the name would be inserted
  pub name_searched : (r : Result ℕ ℕ) → IsSearchInRange r (length rs)
      → IsBinarySearchResult (λ s. slice_cmp nat_cmp s.label name) rs r → IfSome (result_err r) (IsNameFreeSlot rs name)
  name_searched (Ok at) in_range equal = tt
  name_searched (Err at) in_range parted = record {
    in_range = in_range;
    smaller_before = λ k d lt. below_from_cmp (get_or rs k d).label name ((parted comparisons_rise).0 k d (omega arith) lt);
    greater_after = λ k d le lt. above_from_cmp (get_or rs k d).label name ((parted comparisons_rise).1 k d le lt);
  }

-- a name that comes after that of the last resource belongs at the end
pub name_behind : (rs : List Resource) (name : Text) → IsTrue (is_in_order rs) → (r : Resource) → slice_get rs (length rs - 1) ≡ Some r → IsTrue (text_below r.label name) → IsNameFreeSlot rs name (length rs)
name_behind rs name ordered r last below = record {
  in_range = omega arith;
  smaller_before = λ k d lt. elim (cases_lt k (length rs - 1)) [
    | inl before ↦ elim (cases_below (key_of (get_or rs k d)) (key_of (get_or rs (length rs - 1) d)) (in_order_at rs k (length rs - 1) d ordered before (omega arith))) [
      | inl less ↦ below_trans (get_or rs k d).label (get_or rs (length rs - 1) d).label name (below_from_cmp (get_or rs k d).label (get_or rs (length rs - 1) d).label less) (last_below d)
      | inr same ↦ subst (λ (t : Text). IsTrue (text_below t name)) (sym same.0) (last_below d)
    ]
    | inr not_before ↦
        let is_last : k ≡ length rs - 1 = omega arith in
        rw is_last (last_below d)
  ];
  greater_after = λ k d le lt. absurd (omega arith);
}
  where
    last_below : (d : Resource) → IsTrue (text_below (get_or rs (length rs - 1) d).label name)
    last_below d = rw (get_or_from_slice_get rs (length rs - 1) r d last) below

-- it is the place for each reservation of the name
pub key_free_slot : (rs : List Resource) (key : Key) (i : ℕ) → IsNameFreeSlot rs key.0 i → IsKeyFreeSlot rs key i
key_free_slot rs key i free_slot = record {
  in_range = free_slot.in_range;
  below_before = λ k d lt. below_from_name (key_of (get_or rs k d)) key (cmp_below (get_or rs k d).label key.0 (free_slot.smaller_before k d lt));
  above_after = λ k d le lt. below_from_name key (key_of (get_or rs k d)) (cmp_below key.0 (get_or rs k d).label (free_slot.greater_after k d le lt));
}

-- no resource has the name
unnamed : (rs : List Resource) (name : Text) (i : ℕ) → IsNameFreeSlot rs name i → (s : Resource) → Has rs s
    → (same_text s.label name ≡ false) × (same_text name s.label ≡ false)
unnamed rs name i free_slot s has =
    let at = has_index rs s has in
    subst (λ (t : Resource). (same_text t.label name ≡ false) × (same_text name t.label ≡ false)) (sym at.2) (elim (cases_lt at.0 i) [
      | inl before ↦ let below = free_slot.smaller_before at.0 s before in (below_other (get_or rs at.0 s).label name below, above_other (get_or rs at.0 s).label name below)
      | inr after ↦ let below = free_slot.greater_after at.0 s after at.1 in (above_other name (get_or rs at.0 s).label below, below_other name (get_or rs at.0 s).label below)
    ])

none_passes : (name : Text) (test : Resource → Bool) (rs : List Resource) → ((s : Resource) → Has rs s → same_text s.label name ≡ false)
    → list_any (λ s. same_text s.label name && test s) rs ≡ false
none_passes name test [] other = refl
none_passes name test (s ∷ ss) other = rw (other s (inl refl)) (none_passes name test ss (λ t later. other t (inr later)))

no_stock : (name : Text) (p : Point) (rs : List Resource) → ((s : Resource) → Has rs s → same_text name s.label ≡ false)
    → stock rs name p ≡ 0
no_stock name p [] other = refl
no_stock name p (s ∷ ss) other =
    omega (arith, where-cons (of_name name) p s ss, unit-none (of_name name) p s (other s (inl refl)), no_stock name p ss (λ t later. other t (inr later)))

pub stock_first : (rs : List Resource) (name : Text) (i : ℕ) (p : Point) → IsNameFreeSlot rs name i → stock rs name p ≡ 0
stock_first rs name i p free_slot = no_stock name p rs (λ s has. (unnamed rs name i free_slot s has).1)

-- nothing refuses it
pub first_is_free : (rs : List Resource) (r : Resource) (i : ℕ) → IsNameFreeSlot rs r.label i → IsGiven r.value → union_refusal rs r ≡ None
first_is_free rs r i free_slot given =
    let kinds : has_other_kind rs r.label r.value ≡ false = none_passes r.label (λ s. not (is_same_kind s.value r.value)) rs (λ s has. (unnamed rs r.label i free_slot s has).0) in
    let members : is_reserved_elsewhere rs r ≡ false = none_passes r.label (λ s. not (same_key (key_of s) (key_of r)) && share_members s.value r.value) rs (λ s has. (unnamed rs r.label i free_slot s has).0) in
    let none = stock_first rs r.label i Thousandths free_slot in
    let most = units-most r.value Thousandths given in
    let small : is_too_much rs r ≡ false = grind (arith, nat_tests, none, most) in
    λ j. cond (kinds j) (Some fault.Kind) (cond (members j) (Some fault.Overlap) (cond (small j) (Some fault.TooLarge) None))
