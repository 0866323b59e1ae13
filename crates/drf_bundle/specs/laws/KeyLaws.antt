-- The order of keys, and what follows for units.
use Rattle.std.specs.Prelude.{◌≡◌, ◌⊎◌, ℕ, ◌+◌, Bool, true, false, List, [], ◌∷◌, IsTrue, All}
use Rattle.std.specs.List.{list_all}
use Rattle.std.specs.Ordering.{nat_cmp, is_lt}
use Rattle.std.specs.Cmp.Lexicographic.{slice_cmp, nat_list_cmp_total}
use Rattle.std.proofs.Common.{Ordering, Less, Equal, Greater, refl, sym, ap, ◌∙◌, subst, inl, inr, cond, arith}
use Rattle.std.proofs.lemmas.Bool.{false≢true, and_parts, and_from, cases_Bool, false_from_ne_true}
use Rattle.std.proofs.lemmas.List.Elements.{All-head, All-tail}
use Rattle.std.proofs.lemmas.List.Sums.{sum_by-cons}
use Rattle.drf_role.specs.Text.{Text, same_text, text_below}
use Rattle.drf_role.specs.TextLaws.{same_itself, same_from_test, cases_cmp, same_from_cmp, cmp_itself, cmp_below, above_from_cmp, below_trans}
use Rattle.drf_bundle.specs.Value.{Point, units_in}
use Rattle.drf_bundle.specs.Bundle.{Key, key_of, key_cmp, key_below, same_key, units_where, units}
use Rattle.drf_bundle.specs.declared.resource.Resource.{Resource}

-- ---- the order of keys

pub cases_below : (k l : Key) → IsTrue (key_below k l)
    → (slice_cmp nat_cmp k.0 l.0 ≡ Less) ⊎ ((k.0 ≡ l.0) × IsTrue (text_below k.1 l.1))
cases_below k l below = elim (cases_cmp k.0 l.0) [
  | inl less ↦ inl less
  | inr (inl equal) ↦ inr (same_from_cmp k.0 l.0 equal, rw equal at below)
  | inr (inr greater) ↦ absurd (false≢true (rw greater at below))
]

pub below_from_name : (k l : Key) → slice_cmp nat_cmp k.0 l.0 ≡ Less → IsTrue (key_below k l)
below_from_name k l less = rw less refl

below_from_reservation : (k l : Key) → k.0 ≡ l.0 → IsTrue (text_below k.1 l.1) → IsTrue (key_below k l)
below_from_reservation k l same below =
    let equal : slice_cmp nat_cmp k.0 l.0 ≡ Equal = subst (λ (t : Text). slice_cmp nat_cmp k.0 t ≡ Equal) same (cmp_itself k.0) in
    rw equal below

pub key_trans : (k l m : Key) → IsTrue (key_below k l) → IsTrue (key_below l m) → IsTrue (key_below k m)
key_trans k l m first second = elim (cases_below k l first) [
  | inl less ↦ elim (cases_below l m second) [
    | inl less_too ↦ below_from_name k m (nat_list_cmp_total.trans k.0 l.0 m.0 less less_too)
    | inr same ↦ below_from_name k m (subst (λ (t : Text). slice_cmp nat_cmp k.0 t ≡ Less) same.0 less)
  ]
  | inr same ↦ elim (cases_below l m second) [
    | inl less ↦ below_from_name k m (subst (λ (t : Text). slice_cmp nat_cmp t m.0 ≡ Less) (sym same.0) less)
    | inr same_too ↦ below_from_reservation k m (same.0 ∙ same_too.0) (below_trans k.1 l.1 m.1 same.1 same_too.1)
  ]
]

pub cases_key : (k l : Key) → (key_cmp k l ≡ Less) ⊎ ((key_cmp k l ≡ Equal) ⊎ (key_cmp k l ≡ Greater))
cases_key k l = of (key_cmp k l)
  where
    of : (o : Ordering) → (o ≡ Less) ⊎ ((o ≡ Equal) ⊎ (o ≡ Greater))
    of Less = inl refl
    of Equal = inr (inl refl)
    of Greater = inr (inr refl)

pub key_less : (k l : Key) → key_cmp k l ≡ Less → IsTrue (key_below k l)
key_less k l less = ap is_lt less

pub key_greater : (k l : Key) → key_cmp k l ≡ Greater → IsTrue (key_below l k)
key_greater k l is = elim (cases_cmp k.0 l.0) [
  | inl less ↦ absurd (less_not_greater (sym (rw less at is)))
  | inr (inl equal) ↦ below_from_reservation l k (sym (same_from_cmp k.0 l.0 equal)) (above_from_cmp k.1 l.1 (rw equal at is))
  | inr (inr greater) ↦ below_from_name l k (cmp_below l.0 k.0 (above_from_cmp k.0 l.0 greater))
]
  where
    less_not_greater : Greater ≡ Less → ⊥
    less_not_greater e = cc

pub key_equal : (k l : Key) → key_cmp k l ≡ Equal → k ≡ l
key_equal k l is = elim (cases_cmp k.0 l.0) [
  | inl less ↦ absurd (less_not_equal (rw less at is))
  | inr (inl equal) ↦ both (same_from_cmp k.0 l.0 equal) (same_from_cmp k.1 l.1 (rw equal at is))
  | inr (inr greater) ↦ absurd (greater_not_equal (rw greater at is))
]
  where
    less_not_equal : Less ≡ Equal → ⊥
    less_not_equal e = cc

    greater_not_equal : Greater ≡ Equal → ⊥
    greater_not_equal e = cc

    both : k.0 ≡ l.0 → k.1 ≡ l.1 → k ≡ l
    both p q = λ i. (p i, q i)

pub same_key_itself : (k : Key) → same_key k k ≡ true
same_key_itself k = and_from _ _ (same_itself k.0) (same_itself k.1)

pub same_key_true : (k l : Key) → same_key k l ≡ true → k ≡ l
same_key_true k l same =
    let parts = and_parts (same_text k.0 l.0) (same_text k.1 l.1) same in
    let name = same_from_test k.0 l.0 parts.0 in
    let role = same_from_test k.1 l.1 parts.1 in
    λ i. (name i, role i)

pub not_below_itself : (k : Key) → IsTrue (key_below k k) → ⊥
not_below_itself k below = false≢true (sym (rw (cmp_itself k.0, cmp_itself k.1) refl) ∙ below)

pub below_other : (k l : Key) → IsTrue (key_below k l) → same_key k l ≡ false
below_other k l below = false_from_ne_true _ (λ same. not_below_itself l (subst (λ (m : Key). IsTrue (key_below m l)) (same_key_true k l same) below))

pub cases_same : (k l : Key) → ((same_key k l ≡ true) × (k ≡ l)) ⊎ (same_key k l ≡ false)
cases_same k l = elim (cases_Bool (same_key k l)) [ inl same ↦ inl (same, same_key_true k l same) | inr other ↦ inr other ]

-- ---- a resource among others

abbrev pub Has : List Resource → Resource → Type 0
Has [] r = ⊥
Has (s ∷ ss) r = (s ≡ r) ⊎ Has ss r

pub at_each : (P : Resource → Type 0) (rs : List Resource) (r : Resource) → All P rs → Has rs r → P r
at_each P [] r all has = absurd has
at_each P (s ∷ ss) r all (inl is) = subst P is (All-head P s ss all)
at_each P (s ∷ ss) r all (inr later) = at_each P ss r (All-tail P s ss all) later

-- the key comes before those of all resources
abbrev pub stands_first : Key → List Resource → Bool
stands_first key rs = list_all (λ s. key_below key (key_of s)) rs

pub first_trans : (k l : Key) (rs : List Resource) → IsTrue (key_below k l) → IsTrue (stands_first l rs)
    → IsTrue (stands_first k rs)
first_trans k l [] below first = refl
first_trans k l (r ∷ rs) below first =
    let parts = and_parts (key_below l (key_of r)) (stands_first l rs) first in
    and_from _ _ (key_trans k l (key_of r) below parts.0) (first_trans k l rs below parts.1)

-- ---- sums of units

-- what one resource adds to a sum of units
abbrev pub unit_of : (Key → Bool) → Point → Resource → ℕ
unit_of test p r = cond (test (key_of r)) (units_in r.value p) 0

pub where-cons : (test : Key → Bool) (p : Point) (r : Resource) (rs : List Resource)
    → units_where test p (r ∷ rs) ≡ unit_of test p r + units_where test p rs
where-cons test p r rs = sum_by-cons (unit_of test p) r rs

pub unit-here : (test : Key → Bool) (p : Point) (r : Resource) → test (key_of r) ≡ true
    → unit_of test p r ≡ units_in r.value p
unit-here test p r passes = rw passes refl

pub unit-none : (test : Key → Bool) (p : Point) (r : Resource) → test (key_of r) ≡ false → unit_of test p r ≡ 0
unit-none test p r fails = rw fails refl

-- a list has no units at a key that comes before all of its keys
pub units_first : (key : Key) (rs : List Resource) (p : Point) → IsTrue (stands_first key rs) → units rs key p ≡ 0
units_first key [] p first = refl
units_first key (r ∷ rs) p first =
    let parts = and_parts (key_below key (key_of r)) (stands_first key rs) first in
    omega (arith, where-cons (same_key key) p r rs, unit-none (same_key key) p r (below_other key (key_of r) parts.0), units_first key rs p parts.1)

-- the first resource has all units of its key
pub units_head : (r : Resource) (rs : List Resource) (p : Point) → IsTrue (stands_first (key_of r) rs)
    → units (r ∷ rs) (key_of r) p ≡ units_in r.value p
units_head r rs p first =
    omega (arith, where-cons (same_key (key_of r)) p r rs, unit-here (same_key (key_of r)) p r (same_key_itself (key_of r)), units_first (key_of r) rs p first)

pub units_other : (key : Key) (r : Resource) (rs : List Resource) (p : Point) → same_key key (key_of r) ≡ false
    → units (r ∷ rs) key p ≡ units rs key p
units_other key r rs p other = omega (arith, where-cons (same_key key) p r rs, unit-none (same_key key) p r other)
