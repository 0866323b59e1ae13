-- The rest of a bundle, and when it covers another.
use Rattle.std.specs.Prelude.{◌≡◌, ℕ, ◌+◌, ◌-◌, ◌<◌, ◌≤◌, Bool, true, false, List, [], ◌∷◌, map, IsTrue, All, Option, Some, None, nat_lt}
use Rattle.std.specs.Option.{option_map_or}
use Rattle.std.proofs.Common.{refl, sym, ap, ◌∙◌, subst, inl, inr, arith, zero, suc}
use Rattle.std.proofs.lemmas.Bool.{false≢true, true≢false, and_parts, and_from, cases_Bool, ltb-true, lt-ltb}
use Rattle.std.proofs.lemmas.List.Elements.{All-head, All-tail, All-nil, All-cons}
use Rattle.drf_role.specs.Text.{Text, same_text}
use Rattle.drf_amount.specs.Algebra.{Covers}
use Rattle.drf_bundle.specs.Value.{Point, Thousandths, units_in, most, amount_in, IsGiven, has_all_of}
use Rattle.drf_bundle.specs.laws.ValueLaws.{amount-united, given-united, filled_point}
use Rattle.drf_bundle.proofs.theorems.ValueLaws.{units-less, given-less, point_filled, joinable_from, units_covered, covered_from}
use Rattle.drf_bundle.specs.Bundle.{Key, key_of, key_below, same_key, is_in_order, units_where, units, stock, value_at, IsResource, IsBundle, both_of, merged, join, less_at, filled_of, left_of, rest, covers}
use Rattle.drf_bundle.specs.laws.KeyLaws.{Has, at_each, stands_first, cases_same, same_key_itself, unit_of, where-cons, unit-here, unit-none, units_first, units_head, units_other}
use Rattle.drf_bundle.proofs.theorems.KeyLaws.{units_its_own, units_found, units_at}
use Rattle.drf_bundle.specs.laws.JoinLaws.{KeysJoin, where-merged, in_order-merged, each-merged, same_bundle}
use Rattle.drf_bundle.specs.laws.FitLaws.{fits_less, stock_of_both, join_some, join_fits}
use Rattle.drf_bundle.specs.declared.resource.Resource.{Resource}
use Rattle.drf_bundle.specs.declared.value.Value.{Value}

-- ---- resources with changed values, without those that become empty

-- the change of a resource leaves its key
abbrev pub KeepsKeys : (Resource → Resource) → Type 0
KeepsKeys f = (r : Resource) → key_of (f r) ≡ key_of r

first-changed : (f : Resource → Resource) → KeepsKeys f → (key : Key) (rs : List Resource)
    → IsTrue (stands_first key rs) → IsTrue (stands_first key (filled_of (map f rs)))
first-changed f keeps key [] first = refl
first-changed f keeps key (r ∷ rs) first =
    let parts = and_parts (key_below key (key_of r)) (stands_first key rs) first in
    let here : IsTrue (key_below key (key_of (f r))) = subst (λ (k : Key). IsTrue (key_below key k)) (sym (keeps r)) parts.0 in
    elim (cases_Bool (nat_lt 0 (amount_in (f r).value))) [
      | inl some ↦ rw some (and_from _ _ here (first-changed f keeps key rs parts.1))
      | inr none ↦ rw none (first-changed f keeps key rs parts.1)
    ]

pub in_order-changed : (f : Resource → Resource) → KeepsKeys f → (rs : List Resource) → IsTrue (is_in_order rs)
    → IsTrue (is_in_order (filled_of (map f rs)))
in_order-changed f keeps [] ordered = refl
in_order-changed f keeps (r ∷ rs) ordered =
    let parts = and_parts (stands_first (key_of r) rs) (is_in_order rs) ordered in
    elim (cases_Bool (nat_lt 0 (amount_in (f r).value))) [
      | inl some ↦ rw some (and_from _ _
          (subst (λ (k : Key). IsTrue (stands_first k (filled_of (map f rs)))) (sym (keeps r)) (first-changed f keeps (key_of r) rs parts.0))
          (in_order-changed f keeps rs parts.1))
      | inr none ↦ rw none (in_order-changed f keeps rs parts.1)
    ]

pub each-changed : (f : Resource → Resource) (rs : List Resource)
    → ((r : Resource) → IsResource r → 0 < amount_in (f r).value → IsResource (f r)) → All IsResource rs
    → All IsResource (filled_of (map f rs))
each-changed f [] passes all = All-nil IsResource
each-changed f (r ∷ rs) passes all = elim (cases_Bool (nat_lt 0 (amount_in (f r).value))) [
  | inl some ↦ rw some (All-cons IsResource (f r) (filled_of (map f rs)) (passes r (All-head IsResource r rs all) (ltb-true _ _ some)) (each-changed f rs passes (All-tail IsResource r rs all)))
  | inr none ↦ rw none (each-changed f rs passes (All-tail IsResource r rs all))
]

pub nothing_there : (v : Value) (p : Point) → nat_lt 0 (amount_in v) ≡ false → units_in v p ≡ 0
nothing_there v p none = by (units_in v p) refl
  where
    by : (n : ℕ) → units_in v p ≡ n → units_in v p ≡ 0
    by zero is = is
    by (suc n) is = absurd (true≢false (sym (lt-ltb 0 (amount_in v) (point_filled v p (omega (arith, is)))) ∙ none))

-- removed resources had no units
pub where-changed-cons : (f : Resource → Resource) → KeepsKeys f
    → (test : Key → Bool) (p : Point) (r : Resource) (rs : List Resource)
    → units_where test p (filled_of (map f (r ∷ rs))) ≡ unit_of test p (f r) + units_where test p (filled_of (map f rs))
where-changed-cons f keeps test p r rs = elim (cases_Bool (nat_lt 0 (amount_in (f r).value))) [
  | inl some ↦ rw some (where-cons test p (f r) (filled_of (map f rs)))
  | inr none ↦ rw none (
      let zero_here : unit_of test p (f r) ≡ 0 = no_unit (nothing_there (f r).value p none) in
      omega (arith, zero_here))
]
  where
    no_unit : units_in (f r).value p ≡ 0 → unit_of test p (f r) ≡ 0
    no_unit none = elim (cases_Bool (test (key_of (f r)))) [ inl passes ↦ unit-here test p (f r) passes ∙ none | inr fails ↦ unit-none test p (f r) fails ]

-- if no value gains units, no sum of units grows
pub where-changed-le : (f : Resource → Resource) → KeepsKeys f
    → ((r : Resource) (p : Point) → units_in (f r).value p ≤ units_in r.value p)
    → (test : Key → Bool) (p : Point) (rs : List Resource) → units_where test p (filled_of (map f rs)) ≤ units_where test p rs
where-changed-le f keeps falls test p [] = omega arith
where-changed-le f keeps falls test p (r ∷ rs) =
    omega (arith, where-changed-cons f keeps test p r rs, where-cons test p r rs, here, where-changed-le f keeps falls test p rs)
  where
    here : unit_of test p (f r) ≤ unit_of test p r
    here = elim (cases_Bool (test (key_of r))) [
      | inl passes ↦ omega (arith, unit-here test p r passes, unit-here test p (f r) (ap test (keeps r) ∙ passes), falls r p)
      | inr fails ↦ omega (arith, unit-none test p (f r) (ap test (keeps r) ∙ fails))
    ]

-- the units of a key are those of its changed value
pub units-changed : (f : Resource → Resource) → KeepsKeys f → (g : Key → Point → ℕ → ℕ)
    → ((key : Key) (p : Point) → g key p 0 ≡ 0)
    → ((r : Resource) (p : Point) → units_in (f r).value p ≡ g (key_of r) p (units_in r.value p))
    → (rs : List Resource) (key : Key) (p : Point) → IsTrue (is_in_order rs) → units (filled_of (map f rs)) key p ≡ g key p (units rs key p)
units-changed f keeps g of_zero is [] key p ordered = sym (of_zero key p)
units-changed f keeps g of_zero is (r ∷ rs) key p ordered =
    let parts = and_parts (stands_first (key_of r) rs) (is_in_order rs) ordered in
    elim (cases_same key (key_of r)) [
      | inl same ↦ subst (λ (k : Key). units (filled_of (map f (r ∷ rs))) k p ≡ g k p (units (r ∷ rs) k p)) (sym same.1) (
          let rest : units (filled_of (map f rs)) (key_of r) p ≡ 0 = units_first (key_of r) (filled_of (map f rs)) p (first-changed f keeps (key_of r) rs parts.0) in
          let here : unit_of (same_key (key_of r)) p (f r) ≡ units_in (f r).value p
          = unit-here (same_key (key_of r)) p (f r) (ap (same_key (key_of r)) (keeps r) ∙ same_key_itself (key_of r)) in
          let whole : units (filled_of (map f (r ∷ rs))) (key_of r) p ≡ units_in (f r).value p = omega (arith, where-changed-cons f keeps (same_key (key_of r)) p r rs) in
          whole ∙ is r p ∙ ap (g (key_of r) p) (sym (units_head r rs p parts.0)))
      | inr other ↦
          let none : unit_of (same_key key) p (f r) ≡ 0 = unit-none (same_key key) p (f r) (ap (same_key key) (keeps r) ∙ other) in
          let whole : units (filled_of (map f (r ∷ rs))) key p ≡ units (filled_of (map f rs)) key p = omega (arith, where-changed-cons f keeps (same_key key) p r rs) in
          whole ∙ units-changed f keeps g of_zero is rs key p parts.1 ∙ ap (g key p) (sym (units_other key r rs p other))
    ]

-- a bundle whose values are changed to at most as many units is a bundle
pub bundle-changed : (f : Resource → Resource) → KeepsKeys f
    → ((r : Resource) (p : Point) → units_in (f r).value p ≤ units_in r.value p)
    → ((r : Resource) → IsResource r → 0 < amount_in (f r).value → IsResource (f r)) → (rs : List Resource) → IsBundle rs → IsBundle (filled_of (map f rs))
bundle-changed f keeps falls passes rs is = record {
  in_order = in_order-changed f keeps rs is.in_order;
  each = each-changed f rs passes is.each;
  fits = fits_less _ _ is.fits (λ name p. where-changed-le f keeps falls (λ key. same_text name key.0) p rs);
}

-- ---- the rest

keeps-left_of : (part : List Resource) → KeepsKeys (left_of part)
keeps-left_of part r = refl

units-less_at : (found : Option Value) (v : Value) (p : Point)
    → units_in (less_at found v) p ≡ units_in v p - units_at found p
units-less_at None v p = omega arith
units-less_at (Some part) v p = units-less v part p

left_of-falls : (part : List Resource) (r : Resource) (p : Point)
    → units_in (left_of part r).value p ≤ units_in r.value p
left_of-falls part r p = omega (arith, units-less_at (value_at part (key_of r)) r.value p)

given-less_at : (found : Option Value) (v : Value) → IsGiven v → IsGiven (less_at found v)
given-less_at None v given = given
given-less_at (Some part) v given = given-less v part given

pub bundle-rest : (whole part : List Resource) → IsBundle whole → IsBundle (rest whole part)
bundle-rest whole part is = bundle-changed (left_of part) (keeps-left_of part) (left_of-falls part) passes whole is
  where
    passes : (r : Resource) → IsResource r → 0 < amount_in (left_of part r).value → IsResource (left_of part r)
    passes r is filled = record {
      label = is.label;
      role = is.role;
      role_read = is.role_read;
      value = given-less_at (value_at part (key_of r)) r.value is.value;
      filled = filled;
    }

-- the rest has the units of the whole less those of the part
pub units-rest : (whole part : List Resource) (key : Key) (p : Point) → IsTrue (is_in_order whole)
    → IsTrue (is_in_order part) → units (rest whole part) key p ≡ units whole key p - units part key p
units-rest whole part key p first second =
    units-changed (left_of part) (keeps-left_of part) (λ key p n. n - units_at (value_at part key) p) (λ key p. omega arith)
    (λ r p. units-less_at (value_at part (key_of r)) r.value p) whole key p first
    ∙ ap (λ (n : ℕ). units whole key p - n) (sym (units_found part key p second))

-- ---- covering

covers_found : (found : Option Value) (v : Value) (p : Point) → option_map_or (λ w. has_all_of w v) found false ≡ true
    → units_in v p ≤ units_at found p
covers_found None v p all = absurd (false≢true all)
covers_found (Some w) v p all = units_covered w v all p

found_covers : (found : Option Value) (v : Value) → 0 < amount_in v → ((p : Point) → units_in v p ≤ units_at found p)
    → option_map_or (λ w. has_all_of w v) found false ≡ true
found_covers None v filled below = absurd (omega (arith, at.1, below at.0))
  where
    at : (p : Point) × (0 < units_in v p)
    at = filled_point v filled
found_covers (Some w) v filled below = covered_from w v filled below

pub covered_units : (whole part : List Resource) → IsTrue (is_in_order whole) → IsTrue (is_in_order part)
    → covers whole part ≡ true → (key : Key) (p : Point) → units part key p ≤ units whole key p
covered_units whole [] first second all key p = omega arith
covered_units whole (r ∷ rs) first second all key p =
    let parts = and_parts (stands_first (key_of r) rs) (is_in_order rs) second in
    let covered = and_parts (option_map_or (λ w. has_all_of w r.value) (value_at whole (key_of r)) false) (covers whole rs) all in
    elim (cases_same key (key_of r)) [
      | inl same ↦ subst (λ (k : Key). units (r ∷ rs) k p ≤ units whole k p) (sym same.1)
          (omega (arith, units_head r rs p parts.0, units_found whole (key_of r) p first, covers_found (value_at whole (key_of r)) r.value p covered.0))
      | inr other ↦ omega (arith, units_other key r rs p other, covered_units whole rs first parts.1 covered.1 key p)
    ]

pub covers_units : (whole part : List Resource) → IsTrue (is_in_order whole) → IsTrue (is_in_order part)
    → All IsResource part
    → ((key : Key) (p : Point) → units part key p ≤ units whole key p) → covers whole part ≡ true
covers_units whole part first second each below = of part (λ r has. has)
  where
    of : (rs : List Resource) → ((r : Resource) → Has rs r → Has part r) → covers whole rs ≡ true
    of [] within = refl
    of (r ∷ rs) within = and_from _ _
        (found_covers (value_at whole (key_of r)) r.value (at_each IsResource part r each (within r (inl refl))).filled
        (λ p. omega (arith, units_its_own part r p second (within r (inl refl)), below (key_of r) p, units_found whole (key_of r) p first)))
        (of rs (λ s later. within s (inr later)))

-- ---- the rest joined with the part

units_in_stock : (rs : List Resource) (key : Key) (p : Point) → units rs key p ≤ stock rs key.0 p
units_in_stock [] key p = omega arith
units_in_stock (r ∷ rs) key p = omega (arith, where-cons (same_key key) p r rs, where-cons (λ k. same_text key.0 k.0) p r rs, here, units_in_stock rs key p)
  where
    here : unit_of (same_key key) p r ≤ unit_of (λ k. same_text key.0 k.0) p r
    here = elim (cases_Bool (same_key key (key_of r))) [
      | inl same ↦ omega (arith, unit-here (same_key key) p r same, unit-here (λ k. same_text key.0 k.0) p r (and_parts (same_text key.0 r.label) (same_text key.1 (key_of r).1) same).0)
      | inr other ↦ omega (arith, unit-none (same_key key) p r other)
    ]

module _ (whole part : List Resource) (first : IsBundle whole) (second : IsBundle part) (covered : (key : Key) (p : Point) → units part key p ≤ units whole key p) where
  -- at a key of both, the two values have the units of the whole together
  parts_whole : (r s : Resource) → Has (rest whole part) r → Has part s → key_of r ≡ key_of s → (p : Point)
      → units_in r.value p + units_in s.value p ≡ units whole (key_of r) p
  parts_whole r s in_rest in_part keys p = omega (
    arith,
    units_its_own (rest whole part) r p (bundle-rest whole part first).in_order in_rest,
    subst (λ (k : Key). units part k p ≡ units_in s.value p) (sym keys) (units_its_own part s p second.in_order in_part),
    units-rest whole part (key_of r) p first.in_order second.in_order,
    covered (key_of r) p,
  )

  parts_at_most : (r s : Resource) → Has (rest whole part) r → Has part s → key_of r ≡ key_of s → (p : Point)
      → units_in r.value p + units_in s.value p ≤ most p
  parts_at_most r s in_rest in_part keys p =
      omega (arith, parts_whole r s in_rest in_part keys p, units_in_stock whole (key_of r) p, first.fits.at_most r.label p)

  rest_joins : KeysJoin (rest whole part) part
  rest_joins r s in_rest in_part keys =
      let in_whole = parts_whole r s in_rest in_part keys in
      joinable_from r.value s.value
      (at_each IsResource (rest whole part) r (bundle-rest whole part first).each in_rest).filled (at_each IsResource part s second.each in_part).filled
      (λ p q here there. first.fits.one_kind r.label p q
      (omega (arith, in_whole p, units_in_stock whole (key_of r) p, here)) (omega (arith, in_whole q, units_in_stock whole (key_of r) q, there)))
      (parts_at_most r s in_rest in_part keys)

  rest_merged : merged (rest whole part) part ≡ whole
  rest_merged =
      let is = bundle-rest whole part first in
      same_bundle (merged (rest whole part) part) whole
      (record { in_order = in_order-merged (rest whole part) part is.in_order second.in_order; each = each-merged IsResource (rest whole part) part passes is.each second.each })
      (record { in_order = first.in_order; each = first.each })
      (λ key p. omega (arith, where-merged (same_key key) p (rest whole part) part rest_joins, units-rest whole part key p first.in_order second.in_order, covered key p))
    where
      passes : (r s : Resource) → Has (rest whole part) r → Has part s → key_of r ≡ key_of s → IsResource r
          → IsResource s → IsResource (both_of r s)
      passes r s in_rest in_part keys one other = record {
        label = one.label;
        role = one.role;
        role_read = one.role_read;
        value = given-united r.value s.value one.value other.value (parts_at_most r s in_rest in_part keys Thousandths);
        filled = omega (arith, amount-united r.value s.value (rest_joins r s in_rest in_part keys), one.filled);
      }

  -- the rest and the part join to the whole
  pub rest_join : join (rest whole part) part ≡ Some whole
  rest_join =
      let stocks : (name : Text) (p : Point) → stock_of_both (rest whole part) part name p ≤ stock whole name p =
      λ name p. omega (arith, where-merged (λ key. same_text name key.0) p (rest whole part) part rest_joins, ap (λ rs. stock rs name p) rest_merged) in
      (join_fits (rest whole part) part (bundle-rest whole part first) second (fits_less _ _ first.fits stocks)).0 ∙ ap Some rest_merged

-- only a bundle with all units of a part has a rest without it
pub covered_of_rest : (whole part : List Resource) → IsBundle part → Covers IsBundle join whole part
    → (key : Key) (p : Point) → units part key p ≤ units whole key p
covered_of_rest whole part second covers key p =
    let is = join_some covers.rest part whole covers.is_rest.given second covers.is_rest.joined in
    omega (arith, is.units_add key p)
