-- Reading the written form of a bundle gives that bundle.
use Rattle.std.proofs.Common.{map, ◌≡◌, ◌+◌, ◌^◌, ◌≤◌, Bool, true, false, cond, List, [], ◌∷◌, ◌++◌, ◌&&◌, All, Ok, Some, None, inl, inr, refl, sym, ap, subst, ◌∙◌, append_assoc, append-nil, arith, ◌||◌, Option, IsTrue, not, nat_lt}
use Rattle.std.proofs.lemmas.Bool.{true≢false, and_parts, or_parts, lt-ltb, lt-leb}
use Rattle.std.proofs.lemmas.List.Elements.{All-head, All-tail, All-nil, All-cons}
use Rattle.std.proofs.lemmas.List.Folds.{list_all-append}
use Rattle.std.proofs.lemmas.List.Sums.{sum_by-append}
use Rattle.std.specs.List.{list_any}
use Rattle.std.specs.Option.{option_map}
use Rattle.std.specs.Ordering.{is_lt}
use Rattle.drf_text.proofs.Names.{Text, same_text, Resource, resource_of, BundleIsRead}
use Rattle.drf_amount.specs.declared.algebra.AlgebraFault.{AlgebraFault}
use Rattle.drf_amount.specs.declared.algebra.AlgebraFault.TheVariants as refused
use Rattle.drf_bundle.specs.Value.{Point, Thousandths, units_in, amount_in, is_same_kind, share_members}
use Rattle.drf_bundle.specs.Bundle.{Key, key_of, key_below, same_key, is_in_order, stock, IsResource, Fits, IsBundle, merged, filled_of, refusal, join_or}
use Rattle.drf_bundle.specs.laws.BundleLaws.{bundle-empty}
use Rattle.drf_bundle.specs.laws.FitLaws.{stock_has, fits_less, stock_of_both, IsFree, free_from_refusal, join_fits}
use Rattle.drf_bundle.specs.laws.KeyLaws.{cases_key, stands_first, unit_of, where-cons}
use Rattle.drf_bundle.specs.Union.{has_other_kind, is_reserved_elsewhere, is_too_much, union_refusal, with_united}
use Rattle.drf_text.specs.Meaning.{after, text_fault_of, put_or, put, meaning_from}
use Rattle.drf_text.specs.Written.{resource_text, bundle_text}
use Rattle.drf_text.proofs.CutLemmas.{IsPart, pieces_found}
use Rattle.drf_text.proofs.ResourceText.{resource_found}

-- ---- a resource that comes after all others

-- it is added after them
put_behind : (earlier : List Resource) (r : Resource) (later : List Resource) → IsTrue (is_in_order (earlier ++ r ∷ later))
    → merged earlier (r ∷ []) ≡ earlier ++ r ∷ []
put_behind [] r later ordered = refl
put_behind (f ∷ fs) r later ordered =
    let parts = and_parts (stands_first (key_of f) (fs ++ r ∷ later)) (is_in_order (fs ++ r ∷ later)) ordered in
    let behind = and_parts (stands_first (key_of f) fs) (stands_first (key_of f) (r ∷ later)) (sym (list_all-append (λ s. key_below (key_of f) (key_of s)) fs (r ∷ later)) ∙ parts.0) in
    let below = (and_parts (key_below (key_of f) (key_of r)) (stands_first (key_of f) later) behind.1).0 in
    elim (cases_key (key_of f) (key_of r)) [
      | inl less ↦ rw less (ap (λ (rs : List Resource). f ∷ rs) (put_behind fs r later parts.1))
      | inr (inl equal) ↦ absurd (true≢false (sym below ∙ ap is_lt equal))
      | inr (inr greater) ↦ absurd (true≢false (sym below ∙ ap is_lt greater))
    ]

none_weaker : (f g : Resource → Bool) (rs : List Resource) → ((r : Resource) → f r ≡ false → g r ≡ false) → list_any f rs ≡ false → list_any g rs ≡ false
none_weaker f g [] weaker none = refl
none_weaker f g (r ∷ rs) weaker none = rw (weaker r (parts none).0, none_weaker f g rs weaker (parts none).1) refl
  where
    parts : (f r || list_any f rs) ≡ false → (f r ≡ false) × (list_any f rs ≡ false)
    parts none = or_parts (f r) (list_any f rs) none

module _ (earlier : List Resource) (r : Resource) (bundle : IsBundle earlier) (one : IsBundle (r ∷ [])) (fits : Fits (stock_of_both earlier (r ∷ []))) where
  none_refused : refusal earlier (r ∷ []) ≡ None
  none_refused = by (refusal earlier (r ∷ [])) (join_fits earlier (r ∷ []) bundle one fits).0
    where
      by : (f : Option AlgebraFault) → join_or f (merged earlier (r ∷ [])) ≡ Some (merged earlier (r ∷ [])) → f ≡ None
      by None joined = refl
      by (Some f) joined = absurd (cc)

  free : IsFree earlier (r ∷ [])
  free = free_from_refusal earlier (r ∷ []) none_refused

  one_kind : has_other_kind earlier r.label r.value ≡ false
  one_kind =
      none_weaker (λ s. (same_text s.label r.label && not (is_same_kind s.value r.value)) || false) (λ s. same_text s.label r.label && not (is_same_kind s.value r.value)) earlier
      (λ s none. (or_parts _ false none).0) free.kinds

  no_member_twice : is_reserved_elsewhere earlier r ≡ false
  no_member_twice =
      none_weaker (λ s. (same_text s.label r.label && share_members s.value r.value) || false)
      (λ s. same_text s.label r.label && (not (same_key (key_of s) (key_of r)) && share_members s.value r.value)) earlier
      (λ s none. still_none (same_text s.label r.label) (not (same_key (key_of s) (key_of r))) (share_members s.value r.value) (or_parts _ false none).0) free.members
    where
      still_none : (x y z : Bool) → (x && z) ≡ false → (x && (y && z)) ≡ false
      still_none true true z none = none
      still_none true false z none = refl
      still_none false y z none = refl

  not_too_much : is_too_much earlier r ≡ false
  not_too_much = lt-leb (2 ^ 64) (stock earlier r.label Thousandths + units_in r.value Thousandths) (omega (arith, fits.at_most r.label Thousandths, stock_has (r ∷ []) r Thousandths (inl refl)))

  not_refused : union_refusal earlier r ≡ None
  not_refused = λ i. cond (one_kind i) (Some refused.Kind) (cond (no_member_twice i) (Some refused.Overlap) (cond (not_too_much i) (Some refused.TooLarge) None))

-- ---- resources that are combined

-- the stocks of both together are at most those of the whole
stocks_within : (earlier : List Resource) (r : Resource) (later : List Resource) (name : Text) (p : Point)
    → stock earlier name p + stock (r ∷ []) name p ≤ stock (earlier ++ r ∷ later) name p
stocks_within earlier r later name p =
    let of_name = λ (key : Key). same_text name key.0 in
    omega (arith, sum_by-append (unit_of of_name p) earlier (r ∷ later), where-cons of_name p r later, where-cons of_name p r [])

-- the resources so far with the next one are a bundle, and the next one is added after them
record IsNext (earlier : List Resource) (r : Resource) : Type 0 where
  pub bundle : IsBundle (earlier ++ r ∷ [])
  pub put_is : put earlier r ≡ Ok (earlier ++ r ∷ [])

next_of : (earlier : List Resource) (r : Resource) (later : List Resource) → IsBundle earlier → IsResource r
    → IsTrue (is_in_order (earlier ++ r ∷ later)) → Fits (stock (earlier ++ r ∷ later)) → IsNext earlier r
next_of earlier r later bundle is ordered fits =
    record {
      bundle = subst IsBundle behind (join_fits earlier (r ∷ []) bundle one together).1.bundle;
      put_is = λ i. put_or (option_map text_fault_of (not_refused earlier r bundle one together i)) (united i);
    }
  where
    together : Fits (stock_of_both earlier (r ∷ []))
    together = fits_less (stock (earlier ++ r ∷ later)) (stock_of_both earlier (r ∷ [])) fits (stocks_within earlier r later)

    one : IsBundle (r ∷ [])
    one = record {
      in_order = refl;
      each = All-cons IsResource r [] is (All-nil IsResource);
      fits = fits_less (stock_of_both earlier (r ∷ [])) (stock (r ∷ [])) together (λ name p. omega arith);
    }

    behind : merged earlier (r ∷ []) ≡ earlier ++ r ∷ []
    behind = put_behind earlier r later ordered

    filled : filled_of (r ∷ []) ≡ r ∷ []
    filled = rw (lt-ltb 0 (amount_in r.value) is.filled) refl

    united : with_united earlier r ≡ earlier ++ r ∷ []
    united = ap (merged earlier) filled ∙ behind

resources_from : (later earlier : List Resource) → IsBundle earlier → All IsResource later
    → IsTrue (is_in_order (earlier ++ later)) → Fits (stock (earlier ++ later)) → meaning_from (map resource_text later) earlier ≡ Ok (earlier ++ later)
resources_from [] earlier bundle each ordered fits = ap Ok (sym (append-nil earlier))
resources_from (r ∷ rs) earlier bundle each ordered fits =
    let is = All-head IsResource r rs each in
    let piece = resource_found r is in
    let next = next_of earlier r rs bundle is ordered fits in
    let filled : nat_lt 0 (amount_in (resource_of (resource_text r)).value) ≡ true = (λ i. nat_lt 0 (amount_in (piece.says i).value)) ∙ lt-ltb 0 (amount_in r.value) is.filled in
    let step : put earlier (resource_of (resource_text r)) ≡ Ok (earlier ++ r ∷ []) = ap (put earlier) piece.says ∙ next.put_is in
    let whole : (earlier ++ r ∷ []) ++ rs ≡ earlier ++ r ∷ rs = append_assoc earlier (r ∷ []) rs in
    (λ i. after (piece.fault i) (filled i) (step i) earlier (meaning_from (map resource_text rs)))
    ∙ resources_from rs (earlier ++ r ∷ []) next.bundle (All-tail IsResource r rs each) (ap is_in_order whole ∙ ordered)
    (subst (λ (all : List Resource). Fits (stock all)) (sym whole) fits)
    ∙ ap Ok whole

all_parts : (rs : List Resource) → All IsResource rs → All (IsPart 59) (map resource_text rs)
all_parts [] each = All-nil (IsPart 59)
all_parts (r ∷ rs) each =
    All-cons (IsPart 59) (resource_text r) (map resource_text rs) (resource_found r (All-head IsResource r rs each)).part (all_parts rs (All-tail IsResource r rs each))

pub bundle_read : BundleIsRead
unfolding bundle_text
bundle_read bundle is =
    ap (λ (pieces : List Text). meaning_from pieces []) (pieces_found (map resource_text bundle) (all_parts bundle is.each))
    ∙ resources_from bundle [] bundle-empty is.each is.in_order is.fits
