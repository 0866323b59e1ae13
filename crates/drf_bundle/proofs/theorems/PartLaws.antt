-- The part for a role, a bundle cut to limits, and a relabelled bundle are bundles.
use Rattle.std.specs.Prelude.{◌≡◌, ℕ, ◌≤◌, ◌&&◌, Bool, true, false, List, [], ◌∷◌, map, filter, IsTrue, All, nat_lt}
use Rattle.std.proofs.Common.{Less, refl, sym, ap, ◌∙◌, inl, inr, arith}
use Rattle.std.specs.List.{list_all}
use Rattle.std.specs.Ordering.{nat_cmp}
use Rattle.std.specs.Cmp.Lexicographic.{slice_cmp}
use Rattle.std.proofs.lemmas.Bool.{false≢true, and_parts, and_from, cases_Bool, lt-ltb}
use Rattle.std.proofs.lemmas.List.Elements.{All-head, All-tail, All-nil, All-cons, All-filter, All-weaker}
use Rattle.std.proofs.lemmas.List.Sums.{list_all-from_AllPass}
use Rattle.drf_role.specs.Text.{Text, same_text, text_below}
use Rattle.drf_role.specs.Parts.{parts_of, text_of}
use Rattle.drf_role.specs.Path.{Path}
use Rattle.drf_role.specs.Role.{IsRole}
use Rattle.drf_bundle.specs.Value.{Point, Thousandths, Number, Member, units_in, amount_in, IsGiven}
use Rattle.drf_bundle.specs.Bundle.{Key, is_default, reservation, key_of, key_below, is_in_order, units_where, stock, IsResource, IsBundle, is_unreserved, is_for, part_for, filled_of, cut, clipped, clip, moved_to, relabel}
use Rattle.drf_bundle.specs.laws.KeyLaws.{stands_first, where-cons, below_from_name, cases_below}
use Rattle.drf_bundle.specs.laws.FitLaws.{fits_less}
use Rattle.drf_bundle.proofs.theorems.RestLaws.{KeepsKeys, bundle-changed}
use Rattle.drf_bundle.specs.Quantities.{amount_of, is_named}
use Rattle.drf_bundle.specs.declared.quantities.Entry.{Entry}
use Rattle.drf_bundle.specs.declared.resource.Resource.{Resource}
use Rattle.drf_bundle.specs.declared.value.Value.{Value}
use Rattle.drf_bundle.specs.declared.value.Value.TheVariants.{Scalar, Ranges, Items}

-- ---- all of the resources

all_kept : (kept : Resource → Bool) (rs : List Resource) → list_all kept rs ≡ true → filter kept rs ≡ rs
all_kept kept [] all = refl
all_kept kept (r ∷ rs) all =
    let parts = and_parts (kept r) (list_all kept rs) all in
    rw parts.0 (ap (λ rs. r ∷ rs) (all_kept kept rs parts.1))

pub part_for-all : (role : Path) (bundle : List Resource) → list_all (is_for role) bundle ≡ true → part_for role bundle ≡ bundle
part_for-all role bundle all = all_kept (is_for role) bundle all

-- ---- some of the resources

module _ (kept : Resource → Bool) where
  first-some : (key : Key) (rs : List Resource) → IsTrue (stands_first key rs)
      → IsTrue (stands_first key (filter kept rs))
  first-some key [] first = refl
  first-some key (r ∷ rs) first =
      let parts = and_parts (key_below key (key_of r)) (stands_first key rs) first in
      elim (cases_Bool (kept r)) [ inl stays ↦ rw stays (and_from _ _ parts.0 (first-some key rs parts.1)) | inr goes ↦ rw goes (first-some key rs parts.1) ]

  in_order-some : (rs : List Resource) → IsTrue (is_in_order rs) → IsTrue (is_in_order (filter kept rs))
  in_order-some [] ordered = refl
  in_order-some (r ∷ rs) ordered =
      let parts = and_parts (stands_first (key_of r) rs) (is_in_order rs) ordered in
      elim (cases_Bool (kept r)) [ inl stays ↦ rw stays (and_from _ _ (first-some (key_of r) rs parts.0) (in_order-some rs parts.1)) | inr goes ↦ rw goes (in_order-some rs parts.1) ]

  pub where-some : (test : Key → Bool) (p : Point) (rs : List Resource)
      → units_where test p (filter kept rs) ≤ units_where test p rs
  where-some test p [] = omega arith
  where-some test p (r ∷ rs) = elim (cases_Bool (kept r)) [
    | inl stays ↦ rw stays (omega (arith, where-cons test p r rs, where-cons test p r (filter kept rs), where-some test p rs))
    | inr goes ↦ rw goes (omega (arith, where-cons test p r rs, where-some test p rs))
  ]

  -- some of the resources of a bundle are a bundle
  pub bundle-some : (rs : List Resource) → IsBundle rs → IsBundle (filter kept rs)
  bundle-some rs is = record {
    in_order = in_order-some rs is.in_order;
    each = All-filter kept IsResource rs is.each;
    fits = fits_less _ _ is.fits (λ name p. where-some (λ key. same_text name key.0) p rs);
  }

pub bundle-part_for : (role : Path) (rs : List Resource) → IsBundle rs → IsBundle (part_for role rs)
bundle-part_for role rs is = bundle-some (is_for role) rs is

-- ---- cut scalars

pub keeps-clipped : (limits : List Entry) → KeepsKeys (clipped limits)
keeps-clipped limits r = refl

pub cut-falls : (limited : Bool) (limit : ℕ) (v : Value) (p : Point) → units_in (cut limited limit v) p ≤ units_in v p
cut-falls true limit (Scalar t) Thousandths = omega arith
cut-falls false limit (Scalar t) Thousandths = omega arith
cut-falls limited limit (Scalar t) (Number n) = omega arith
cut-falls limited limit (Scalar t) (Member m) = omega arith
cut-falls limited limit (Ranges a) p = omega arith
cut-falls limited limit (Items a) p = omega arith

cut-given : (limited : Bool) (limit : ℕ) (v : Value) → IsGiven v → IsGiven (cut limited limit v)
cut-given true limit (Scalar t) given = omega (arith, given)
cut-given false limit (Scalar t) given = given
cut-given limited limit (Ranges a) given = given
cut-given limited limit (Items a) given = given

pub bundle-clip : (limits : List Entry) (rs : List Resource) → IsBundle rs → IsBundle (clip limits rs)
bundle-clip limits rs is = bundle-changed (clipped limits) (keeps-clipped limits) (λ r p. cut-falls (is_default r.role && is_named limits r.label) (amount_of limits r.label) r.value p)
    (λ r one filled. record { label = one.label; role = one.role; role_read = one.role_read; value = cut-given (is_default r.role && is_named limits r.label) (amount_of limits r.label) r.value one.value; filled = filled }) rs is

-- no resource of a bundle is empty
filled_all : (rs : List Resource) → All IsResource rs → filled_of rs ≡ rs
filled_all rs each = all_kept filled rs (list_all-from_AllPass filled rs
    (All-weaker IsResource (λ r. filled r ≡ true) (λ r is. lt-ltb 0 (amount_in r.value) is.filled) rs each))
  where
    filled : Resource → Bool
    filled r = nat_lt 0 (amount_in r.value)

-- a bundle of which nothing is cut stays the same
pub clip-all : (limits : List Entry) (rs : List Resource) → IsBundle rs → map (clipped limits) rs ≡ rs → clip limits rs ≡ rs
clip-all limits rs is same = ap (λ (left : List Resource). filled_of left) same ∙ filled_all rs is.each

-- ---- relabelled resources

-- of two unreserved resources neither reservation comes before the other
nothing_below : (r s : Resource) → is_default r.role ≡ true → is_default s.role ≡ true
    → text_below (reservation r.role) (reservation s.role) ≡ false
nothing_below r s first second = rw (first, second) refl

-- the stocks stay
pub relabel-stock : (role : Path) (name : Text) (p : Point) (rs : List Resource)
    → stock (relabel role rs) name p ≡ stock rs name p
relabel-stock role name p [] = refl
relabel-stock role name p (r ∷ rs) =
    let test : Key → Bool = λ key. same_text name key.0 in
    omega (arith, where-cons test p r rs, where-cons test p (moved_to role r) (relabel role rs), relabel-stock role name p rs)

module _ (role : Path) (is_role : IsRole role) (read : parts_of (text_of role) ≡ role) where
  -- without reservations the resources are in order of names alone
  first-moved : (r : Resource) (rs : List Resource) → IsTrue (is_unreserved (r ∷ rs))
      → IsTrue (stands_first (key_of r) rs) → IsTrue (stands_first (key_of (moved_to role r)) (relabel role rs))
  first-moved r [] all first = refl
  first-moved r (s ∷ ss) all first =
      let parts = and_parts (key_below (key_of r) (key_of s)) (stands_first (key_of r) ss) first in
      let here = and_parts (is_default r.role) (is_unreserved (s ∷ ss)) all in
      let there = and_parts (is_default s.role) (is_unreserved ss) here.1 in
      let name : slice_cmp nat_cmp r.label s.label ≡ Less = elim (cases_below (key_of r) (key_of s) parts.0) [
        | inl less ↦ less
        | inr same ↦ absurd (false≢true (sym (nothing_below r s here.0 there.0) ∙ same.1))
      ] in
      and_from _ _ (below_from_name (key_of (moved_to role r)) (key_of (moved_to role s)) name) (first-moved r ss (and_from _ _ here.0 there.1) parts.1)

  in_order-moved : (rs : List Resource) → IsTrue (is_unreserved rs) → IsTrue (is_in_order rs)
      → IsTrue (is_in_order (relabel role rs))
  in_order-moved [] all ordered = refl
  in_order-moved (r ∷ rs) all ordered =
      let parts = and_parts (stands_first (key_of r) rs) (is_in_order rs) ordered in
      and_from _ _ (first-moved r rs all parts.0) (in_order-moved rs (and_parts (is_default r.role) (is_unreserved rs) all).1 parts.1)

  each-moved : (rs : List Resource) → All IsResource rs → All IsResource (relabel role rs)
  each-moved [] all = All-nil IsResource
  each-moved (r ∷ rs) all =
      let one = All-head IsResource r rs all in
      All-cons IsResource (moved_to role r) (relabel role rs) (record { label = one.label; role = is_role; role_read = read; value = one.value; filled = one.filled }) (each-moved rs (All-tail IsResource r rs all))

  -- an unreserved bundle that is relabelled is a bundle
  pub bundle-relabel : (rs : List Resource) → IsTrue (is_unreserved rs) → IsBundle rs → IsBundle (relabel role rs)
  bundle-relabel rs all is = record {
    in_order = in_order-moved rs all is.in_order;
    each = each-moved rs is.each;
    fits = fits_less _ _ is.fits (λ name p. omega (arith, relabel-stock role name p rs));
  }
