-- The units of a union, and that it is a bundle.
use Rattle.std.specs.Prelude.{◌≡◌, ℕ, ◌+◌, ◌^◌, ◌<◌, ◌≤◌, ◌&&◌, ◌||◌, Bool, true, false, not, List, [], ◌∷◌, IsTrue, Option, Some, None, nat_lt}
use Rattle.std.specs.Bool.{then_some}
use Rattle.std.proofs.Common.{refl, sym, ap, ◌∙◌, subst, inl, inr, cond, arith}
use Rattle.std.proofs.lemmas.Bool.{false≢true, and_parts, and_from, or_parts, cases_Bool, false_from_ne_true, ltb-true, lt-ltb}
use Rattle.std.proofs.lemmas.Bool.Decides.{nat_tests}
use Rattle.std.proofs.lemmas.List.Elements.{All-nil, All-cons}
use Rattle.drf_role.specs.Text.{Text, same_text}
use Rattle.drf_role.specs.TextLaws.{same_itself, same_from_test, test_from_same}
use Rattle.drf_amount.specs.declared.algebra.AlgebraFault.TheVariants as fault
use Rattle.drf_bundle.specs.Value.{Point, Thousandths, Number, Member, units_in, most, amount_in, is_same_kind, share_members, united}
use Rattle.drf_bundle.specs.laws.ValueLaws.{given-united, filled_point, share_at}
use Rattle.drf_bundle.proofs.theorems.ValueLaws.{united_within, thousandths-united, point_filled, units_single}
use Rattle.drf_bundle.specs.Bundle.{Key, key_of, key_below, same_key, is_in_order, units_where, units, stock, IsResource, IsBundle, HasSums, value_at, both_of, merged, have_clash, quantities_of, add_scalar, join_or}
use Rattle.drf_bundle.specs.laws.KeyLaws.{cases_key, key_less, key_greater, key_equal, same_key_itself, same_key_true, below_other, cases_same, Has, stands_first, first_trans, unit_of, where-cons, unit-here, unit-none}
use Rattle.drf_bundle.proofs.theorems.KeyLaws.{above_other, units_found, units_at}
use Rattle.drf_bundle.specs.laws.JoinLaws.{merged-empty, in_order-merged, each-merged}
use Rattle.drf_bundle.specs.laws.FitLaws.{zero_or_some, stock_has, one_kind_of_both}
use Rattle.drf_bundle.proofs.theorems.OneLaws.{bundle-one}
use Rattle.drf_bundle.proofs.theorems.QuantitiesLaws.{or_none, same_quantities}
use Rattle.drf_bundle.specs.laws.SumLaws.{of_name}
use Rattle.drf_bundle.proofs.theorems.SumLaws.{nothing, amount-add_scalar, amount-quantities_of}
use Rattle.drf_bundle.proofs.theorems.RestLaws.{nothing_there}
use Rattle.drf_bundle.specs.laws.UnitLaws.{UnionIsBundle, UnionHasUnits}
use Rattle.drf_bundle.proofs.theorems.UnitProofs.{no_zeros-add_scalar, quantities_no_zeros}
use Rattle.drf_bundle.specs.Union.{IsPiece, has_other_kind, is_reserved_elsewhere, is_too_much, union_refusal, with_united, united_at, union}
use Rattle.drf_bundle.specs.declared.quantities.Entry.{Entry}
use Rattle.drf_bundle.specs.declared.resource.Resource.{Resource}
use Rattle.drf_bundle.specs.declared.value.Value.{Value}
use Rattle.drf_bundle.specs.declared.value.Clash.TheVariants.{Kinds}

-- ---- units

-- a list has no value at a key that comes before all of its keys
value_first : (key : Key) (rs : List Resource) → IsTrue (stands_first key rs) → value_at rs key ≡ None
value_first key [] first = refl
value_first key (r ∷ rs) first =
    let parts = and_parts (key_below key (key_of r)) (stands_first key rs) first in
    rw (below_other key (key_of r) parts.0) (value_first key rs parts.1)

module _ (test : Key → Bool) (p : Point) (r : Resource) where
  -- what the value at the key of the resource counts, before and after
  abbrev had : Option Value → ℕ
  had found = cond (test (key_of r)) (units_at found p) 0

  abbrev has_now : Option Value → ℕ
  has_now found = cond (test (key_of r)) (units_in (united_at found r.value) p) 0

  -- units change only at the key of the resource
  pub where-united : (rs : List Resource) → IsTrue (is_in_order rs)
      → units_where test p (merged rs (r ∷ [])) + had (value_at rs (key_of r)) ≡ units_where test p rs + has_now (value_at rs (key_of r))
  where-united [] ordered = omega (arith, where-cons test p r [], nothing (test (key_of r)) 0 refl)
  where-united (s ∷ ss) ordered =
      let parts = and_parts (stands_first (key_of s) ss) (is_in_order ss) ordered in
      elim (cases_key (key_of s) (key_of r)) [
        | inl less ↦
            let later : value_at (s ∷ ss) (key_of r) ≡ value_at ss (key_of r) = rw (above_other (key_of s) (key_of r) (key_less (key_of s) (key_of r) less)) refl in
            let step : merged (s ∷ ss) (r ∷ []) ≡ s ∷ merged ss (r ∷ []) = rw less refl in
            rw (later, step) (omega (arith, where-cons test p s (merged ss (r ∷ [])), where-cons test p s ss, where-united ss parts.1))
        | inr (inl equal) ↦
            let keys = key_equal (key_of s) (key_of r) equal in
            let here : value_at (s ∷ ss) (key_of r) ≡ Some s.value = rw (subst (λ (k : Key). same_key k (key_of s) ≡ true) keys (same_key_itself (key_of s))) refl in
            let step : merged (s ∷ ss) (r ∷ []) ≡ both_of s r ∷ ss = rw equal (ap (λ (rs : List Resource). both_of s r ∷ rs) (merged-empty ss)) in
            let was : unit_of test p s ≡ had (Some s.value) = ap (λ (k : Key). cond (test k) (units_in s.value p) 0) keys in
            let is : unit_of test p (both_of s r) ≡ has_now (Some s.value) = ap (λ (k : Key). cond (test k) (units_in (united s.value r.value) p) 0) keys in
            rw (here, step) (omega (arith, where-cons test p (both_of s r) ss, where-cons test p s ss, was, is))
        | inr (inr greater) ↦
            let below = key_greater (key_of s) (key_of r) greater in
            let none : value_at (s ∷ ss) (key_of r) ≡ None = value_first (key_of r) (s ∷ ss) (and_from _ _ below (first_trans (key_of r) (key_of s) ss below parts.0)) in
            let step : merged (s ∷ ss) (r ∷ []) ≡ r ∷ s ∷ ss = rw greater (ap (λ (rs : List Resource). r ∷ s ∷ rs) (merged-empty ss)) in
            rw (none, step) (omega (arith, where-cons test p r (s ∷ ss), nothing (test (key_of r)) 0 refl))
      ]

united_at_within : (found : Option Value) (w : Value) (p : Point)
    → (units_at found p ≤ units_in (united_at found w) p) × (units_in (united_at found w) p ≤ units_at found p + units_in w p)
united_at_within None w p = (omega arith, omega arith)
united_at_within (Some v) w p = united_within v w p

-- ---- when a union is refused

pub record IsRoom (bundle : List Resource) (r : Resource) : Type 0 where
  pub kinds : has_other_kind bundle r.label r.value ≡ false
  pub members : is_reserved_elsewhere bundle r ≡ false
  pub small : is_too_much bundle r ≡ false

pub room_from_refusal : (bundle : List Resource) (r : Resource) → union_refusal bundle r ≡ None → IsRoom bundle r
room_from_refusal bundle r none = of (has_other_kind bundle r.label r.value) (is_reserved_elsewhere bundle r) (is_too_much bundle r) refl refl refl none
  where
    of : (x y z : Bool) → has_other_kind bundle r.label r.value ≡ x → is_reserved_elsewhere bundle r ≡ y → is_too_much bundle r ≡ z
        → cond x (Some fault.Kind) (cond y (Some fault.Overlap) (cond z (Some fault.TooLarge) None)) ≡ None → IsRoom bundle r
    of true y z kinds members small none = absurd (cc)
    of false true z kinds members small none = absurd (cc)
    of false false true kinds members small none = absurd (cc)
    of false false false kinds members small none = record { kinds = kinds; members = members; small = small }

pub room_fits : (bundle : List Resource) (r : Resource) → IsRoom bundle r
    → stock bundle r.label Thousandths + units_in r.value Thousandths < 2 ^ 64
room_fits bundle r room = let small = room.small in grind (arith, nat_tests, small)

-- if nothing clashes, the only possible reason is that the sum is too large
pub refusal_is : (bundle : List Resource) (r : Resource) (large : Bool) → has_other_kind bundle r.label r.value ≡ false
    → is_reserved_elsewhere bundle r ≡ false → large ≡ is_too_much bundle r
    → then_some large fault.TooLarge ≡ union_refusal bundle r
refusal_is bundle r large kinds members is =
    last large ∙ (λ i. cond (sym kinds i) (Some fault.Kind) (cond (sym members i) (Some fault.Overlap) (cond (is i) (Some fault.TooLarge) None)))
  where
    last : (b : Bool) → then_some b fault.TooLarge ≡ cond b (Some fault.TooLarge) None
    last true = refl
    last false = refl

-- kinds clash exactly if the name has another kind
kinds_same : (r : Resource) (rs : List Resource) → have_clash Kinds rs (r ∷ []) ≡ has_other_kind rs r.label r.value
kinds_same r [] = refl
kinds_same r (s ∷ ss) = λ i. sym (or_none (same_text s.label r.label && not (is_same_kind s.value r.value))) i || kinds_same r ss i

-- if the name has no other kind, thousandths add up
thousandths_at : (r : Resource) (rs : List Resource) → has_other_kind rs r.label r.value ≡ false
    → units_in (united_at (value_at rs (key_of r)) r.value) Thousandths ≡ units_at (value_at rs (key_of r)) Thousandths + units_in r.value Thousandths
thousandths_at r [] none = omega arith
thousandths_at r (s ∷ ss) none =
    let parts = or_parts (same_text s.label r.label && not (is_same_kind s.value r.value)) (has_other_kind ss r.label r.value) none in
    elim (cases_same (key_of r) (key_of s)) [
      | inl same ↦ rw same.0 (thousandths-united s.value r.value (elim (cases_Bool (is_same_kind s.value r.value)) [
        | inl one ↦ one
        | inr two ↦ absurd (false≢true (sym parts.0 ∙ and_from _ _ (test_from_same s.label r.label (λ i. (sym same.1 i).0)) (ap not two)))
      ]))
      | inr other ↦ rw other (thousandths_at r ss parts.1)
    ]

-- if no member of the resource is under another reservation, the stock of such a member is what its key has
stock_here : (r : Resource) (p : Point) → most p ≡ 1 → 0 < units_in r.value p → (rs : List Resource)
    → is_reserved_elsewhere rs r ≡ false → stock rs r.label p ≡ units rs (key_of r) p
stock_here r p single some [] none = refl
stock_here r p single some (s ∷ ss) none =
    let parts = or_parts (same_text s.label r.label && (not (same_key (key_of s) (key_of r)) && share_members s.value r.value)) (is_reserved_elsewhere ss r) none in
    omega (arith, where-cons (of_name r.label) p s ss, where-cons (same_key (key_of r)) p s ss, here parts.0, stock_here r p single some ss parts.1)
  where
    here : (same_text s.label r.label && (not (same_key (key_of s) (key_of r)) && share_members s.value r.value)) ≡ false
        → unit_of (of_name r.label) p s ≡ unit_of (same_key (key_of r)) p s
    here apart = elim (cases_same (key_of r) (key_of s)) [
      | inl same ↦
          let named : same_text r.label s.label ≡ true = test_from_same r.label s.label (λ i. (same.1 i).0) in
          unit-here (of_name r.label) p s named ∙ sym (unit-here (same_key (key_of r)) p s same.0)
      | inr other ↦ elim (cases_Bool (same_text r.label s.label)) [
        | inl named ↦ elim (zero_or_some (units_in s.value p)) [
          | inl zero_here ↦ omega (arith, unit-here (of_name r.label) p s named, zero_here, unit-none (same_key (key_of r)) p s other)
          | inr some_here ↦
              let turned : same_key (key_of s) (key_of r) ≡ false = false_from_ne_true _ (λ same. false≢true (sym other ∙ subst (λ (k : Key). same_key k (key_of s) ≡ true) (same_key_true (key_of s) (key_of r) same) (same_key_itself (key_of s)))) in
              absurd (false≢true (sym apart ∙ and_from _ _ (test_from_same s.label r.label (sym (same_from_test r.label s.label named))) (and_from _ _ (ap not turned) (share_at p s.value r.value single some_here some))))
        ]
        | inr unnamed ↦ unit-none (of_name r.label) p s unnamed ∙ sym (unit-none (same_key (key_of r)) p s other)
      ]
    ]

-- ---- a union is a bundle

module _ (bundle : List Resource) (r : Resource) (is : IsBundle bundle) (one : IsResource r) (room : IsRoom bundle r) where
  abbrev found : Option Value
  found = value_at bundle (key_of r)

  abbrev whole : List Resource
  whole = merged bundle (r ∷ [])

  stock_within : (name : Text) (p : Point) → stock whole name p ≤ stock bundle name p + unit_of (of_name name) p r
  stock_within name p = elim (cases_Bool (same_text name r.label)) [
    | inl named ↦
        let add : stock whole name p + units_at found p ≡ stock bundle name p + units_in (united_at found r.value) p = rw named at (where-united (of_name name) p r bundle is.in_order) in
        omega (arith, add, unit-here (of_name name) p r named, united_at_within found r.value p)
    | inr other ↦
        let add : stock whole name p + 0 ≡ stock bundle name p + 0 = rw other at (where-united (of_name name) p r bundle is.in_order) in
        omega (arith, add)
  ]

  -- thousandths add up
  stock_thousandths : (name : Text) → stock whole name Thousandths ≡ stock bundle name Thousandths + unit_of (of_name name) Thousandths r
  stock_thousandths name = elim (cases_Bool (same_text name r.label)) [
    | inl named ↦
        let add : stock whole name Thousandths + units_at found Thousandths ≡ stock bundle name Thousandths + units_in (united_at found r.value) Thousandths = rw named at (where-united (of_name name) Thousandths r bundle is.in_order) in
        omega (arith, add, unit-here (of_name name) Thousandths r named, thousandths_at r bundle room.kinds)
    | inr other ↦
        let add : stock whole name Thousandths + 0 ≡ stock bundle name Thousandths + 0 = rw other at (where-united (of_name name) Thousandths r bundle is.in_order) in
        omega (arith, add, unit-none (of_name name) Thousandths r other)
  ]

  single_at_most : (name : Text) (p : Point) → most p ≡ 1 → stock whole name p ≤ most p
  single_at_most name p single = elim (cases_Bool (same_text name r.label)) [
    | inl named ↦ elim (zero_or_some (units_in r.value p)) [
      | inl none ↦ omega (arith, stock_within name p, unit-here (of_name name) p r named, none, is.fits.at_most name p)
      | inr some ↦ subst (λ (t : Text). stock whole t p ≤ most p) (sym (same_from_test name r.label named)) (
          let add : stock whole r.label p + units_at found p ≡ stock bundle r.label p + units_in (united_at found r.value) p = rw (same_itself r.label) at (where-united (of_name r.label) p r bundle is.in_order) in
          omega (arith, add, stock_here r p single some bundle room.members, units_found bundle (key_of r) p is.in_order, units_single (united_at found r.value) p single, single))
    ]
    | inr other ↦ omega (arith, stock_within name p, unit-none (of_name name) p r other, is.fits.at_most name p)
  ]

  at_most : (name : Text) (p : Point) → stock whole name p ≤ most p
  at_most name Thousandths = elim (cases_Bool (same_text name r.label)) [
    | inl named ↦ subst (λ (t : Text). stock whole t Thousandths ≤ most Thousandths) (sym (same_from_test name r.label named))
        (omega (arith, stock_within r.label Thousandths, unit-here (of_name r.label) Thousandths r (same_itself r.label), room_fits bundle r room))
    | inr other ↦ omega (arith, stock_within name Thousandths, unit-none (of_name name) Thousandths r other, is.fits.at_most name Thousandths)
  ]
  at_most name (Number n) = single_at_most name (Number n) refl
  at_most name (Member m) = single_at_most name (Member m) refl

  passes : (s t : Resource) → Has bundle s → Has (r ∷ []) t → key_of s ≡ key_of t → IsResource s → IsResource t
      → IsResource (both_of s t)
  passes s t has (inl same) keys first second =
      let p = filled_point s.value first.filled in
      let label : s.label ≡ t.label = λ i. (keys i).0 in
      record {
        label = first.label;
        role = first.role;
        role_read = first.role_read;
        value = given-united s.value t.value first.value second.value
            (omega (arith, stock_has bundle s Thousandths has, ap (λ (t : Text). stock bundle t Thousandths) label, subst (λ (t : Resource). stock bundle t.label Thousandths + units_in t.value Thousandths < 2 ^ 64) same (room_fits bundle r room)));
        filled = point_filled (united s.value t.value) p.0 (omega (arith, p.1, united_within s.value t.value p.0));
      }
  passes s t has (inr nowhere) keys first second = absurd nowhere

  bundle-merged_one : IsBundle whole
  bundle-merged_one = record {
    in_order = in_order-merged bundle (r ∷ []) is.in_order refl;
    each = each-merged IsResource bundle (r ∷ []) passes is.each (All-cons IsResource r [] one (All-nil IsResource));
    fits = record {
      one_kind = λ name p q some other.
          one_kind_of_both bundle (r ∷ []) is (bundle-one r one) (kinds_same r bundle ∙ room.kinds) name p q
          (omega (arith, some, stock_within name p, where-cons (of_name name) p r [])) (omega (arith, other, stock_within name q, where-cons (of_name name) q r []));
      at_most = at_most;
    };
  }

  -- the scalar adds to the sum of its name
  quantities-merged : quantities_of whole ≡ add_scalar (quantities_of bundle) r
  quantities-merged = same_quantities (quantities_of whole) (add_scalar (quantities_of bundle) r)
      (quantities_no_zeros whole bundle-merged_one) (no_zeros-add_scalar (quantities_of bundle) r one.filled (quantities_no_zeros bundle is))
      (λ n. omega (arith, amount-quantities_of whole n, amount-add_scalar (quantities_of bundle) r n, amount-quantities_of bundle n, stock_thousandths n))

-- ---- the union, whether the resource is empty or not

with_empty : (bundle : List Resource) (r : Resource) → nat_lt 0 (amount_in r.value) ≡ false → with_united bundle r ≡ bundle
with_empty bundle r nothing = rw nothing (merged-empty bundle)

with_filled : (bundle : List Resource) (r : Resource) → nat_lt 0 (amount_in r.value) ≡ true → with_united bundle r ≡ merged bundle (r ∷ [])
with_filled bundle r some = rw some refl

filled_piece : (r : Resource) → IsPiece r → nat_lt 0 (amount_in r.value) ≡ true → IsResource r
filled_piece r piece some =
    record { label = piece.label; role = piece.role; role_read = piece.role_read; value = piece.value; filled = ltb-true 0 (amount_in r.value) some }

pub bundle-with_united : UnionIsBundle
bundle-with_united bundle r is piece none = elim (cases_Bool (nat_lt 0 (amount_in r.value))) [
  | inl some ↦ rw (with_filled bundle r some) (bundle-merged_one bundle r is (filled_piece r piece some) (room_from_refusal bundle r none))
  | inr nothing ↦ rw (with_empty bundle r nothing) is
]

module _ (bundle : List Resource) (r : Resource) (is : IsBundle bundle) (p : Point) where
  -- the units at the key of the resource afterwards
  abbrev then_there : ℕ
  then_there = units_in (united_at (value_at bundle (key_of r)) r.value) p

  units_here : units (with_united bundle r) (key_of r) p ≡ then_there
  units_here = elim (cases_Bool (nat_lt 0 (amount_in r.value))) [
    | inl some ↦
        let add : units (merged bundle (r ∷ [])) (key_of r) p + units_at (value_at bundle (key_of r)) p ≡ units bundle (key_of r) p + then_there = rw (same_key_itself (key_of r)) at (where-united (same_key (key_of r)) p r bundle is.in_order) in
        rw (with_filled bundle r some) (omega (arith, add, units_found bundle (key_of r) p is.in_order))
    | inr empty ↦ rw (with_empty bundle r empty) (omega (arith, units_found bundle (key_of r) p is.in_order, united_at_within (value_at bundle (key_of r)) r.value p, nothing_there r.value p empty))
  ]

  units_elsewhere : (key : Key) → same_key key (key_of r) ≡ false → units (with_united bundle r) key p ≡ units bundle key p
  units_elsewhere key other = elim (cases_Bool (nat_lt 0 (amount_in r.value))) [
    | inl some ↦
        let add : units (merged bundle (r ∷ [])) key p + 0 ≡ units bundle key p + 0 = rw other at (where-united (same_key key) p r bundle is.in_order) in
        rw (with_filled bundle r some) (omega (arith, add))
    | inr empty ↦ rw (with_empty bundle r empty) refl
  ]

pub units-with_united : UnionHasUnits
units-with_united bundle r is key p = elim (cases_same key (key_of r)) [
  | inl same ↦ rw same.0 (subst (λ (k : Key). units (with_united bundle r) k p ≡ then_there bundle r is p) (sym same.1) (units_here bundle r is p))
  | inr other ↦ rw other (units_elsewhere bundle r is p key other)
]

-- ---- the same, with what the code has computed

pub union_empty : (bundle : List Resource) (r : Resource) → union_refusal bundle r ≡ None → amount_in r.value ≡ 0
    → union bundle r ≡ Some bundle
union_empty bundle r none zero = λ i. join_or (none i) (with_empty bundle r (ap (nat_lt 0) zero) i)

pub union_filled : (bundle : List Resource) (r : Resource) → union_refusal bundle r ≡ None → nat_lt 0 (amount_in r.value) ≡ true
    → union bundle r ≡ Some (merged bundle (r ∷ []))
union_filled bundle r none some = λ i. join_or (none i) (with_filled bundle r some i)

pub some_in : (r : Resource) → (amount_in r.value ≡ 0 → ⊥) → nat_lt 0 (amount_in r.value) ≡ true
some_in r some = lt-ltb 0 (amount_in r.value) (elim (zero_or_some (amount_in r.value)) [ inl zero ↦ absurd (some zero) | inr above ↦ above ])

-- the stored sums are still those of the resources
pub kept-merged : (bundle more : List Resource) (quantities sums : List Entry) (r : Resource) → HasSums bundle quantities
    → IsPiece r → union_refusal bundle r ≡ None → nat_lt 0 (amount_in r.value) ≡ true → more ≡ merged bundle (r ∷ []) → sums ≡ add_scalar quantities r
    → HasSums more sums
kept-merged bundle more quantities sums r kept piece none some is sum =
    let one = filled_piece r piece some in
    let room = room_from_refusal bundle r none in
    record {
      bundle = subst IsBundle (sym is) (bundle-merged_one bundle r kept.bundle one room);
      sums = sum ∙ ap (λ (q : List Entry). add_scalar q r) kept.sums ∙ sym (quantities-merged bundle r kept.bundle one room) ∙ ap quantities_of (sym is);
    }
