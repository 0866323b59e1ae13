-- The steps of computing a rest.
use Rattle.std.specs.Prelude.{◌≡◌, true, List, [], ◌∷◌, ◌++◌, Some, None, IsTrue, All, nat_lt}
use Rattle.std.proofs.Common.{refl, sym, ap, ◌∙◌, subst, inl, inr, cond, get_or, append_assoc}
use Rattle.std.proofs.lemmas.List.{append-nil}
use Rattle.std.proofs.lemmas.Bool.{and_parts, and_from, cases_Bool, lt-ltb}
use Rattle.std.proofs.lemmas.List.Elements.{All-head, All-tail}
use Rattle.drf_bundle.specs.Value.{amount_in, less}
use Rattle.drf_bundle.specs.Bundle.{Key, key_of, key_cmp, key_below, same_key, is_in_order, IsResource, IsBundle, value_at, with_value, less_at, filled_of, rest}
use Rattle.drf_bundle.specs.Sides.{next_side}
use Rattle.drf_bundle.specs.laws.KeyLaws.{stands_first, first_trans, key_less, key_greater, key_equal, same_key_itself, below_other}
use Rattle.drf_bundle.proofs.theorems.KeyLaws.{above_other}
use Rattle.drf_bundle.specs.declared.merge.Side.TheVariants.{Left, Right, Both}
use Rattle.drf_bundle.specs.declared.resource.Resource.{Resource}
use Rattle.drf_bundle.proofs.MergeLemmas.{tail, tail_is, side_less, side_equal, side_greater}
use Rattle.drf_bundle.proofs.PushLemmas.{bundle-prefix}

-- a resource before others, unless it is empty
abbrev put : Resource → List Resource → List Resource
put r others = cond (nat_lt 0 (amount_in r.value)) (r ∷ others) others

put_is : (r : Resource) (others : List Resource) → put r others ≡ filled_of (r ∷ []) ++ others
put_is r others = elim (cases_Bool (nat_lt 0 (amount_in r.value))) [ inl some ↦ rw some refl | inr none ↦ rw none refl ]

-- a list has no value at a key that comes before all of its keys
no_value : (key : Key) (rs : List Resource) → IsTrue (stands_first key rs) → value_at rs key ≡ None
no_value key [] first = refl
no_value key (r ∷ rs) first =
    let parts = and_parts (key_below key (key_of r)) (stands_first key rs) first in
    rw (below_other key (key_of r) parts.0) (no_value key rs parts.1)

-- a resource of the part whose key comes before all removes nothing
rest_past : (s : Resource) (ss a : List Resource) → IsTrue (stands_first (key_of s) a) → rest a (s ∷ ss) ≡ rest a ss
rest_past s ss [] first = refl
rest_past s ss (r ∷ rs) first =
    let parts = and_parts (key_below (key_of s) (key_of r)) (stands_first (key_of s) rs) first in
    let same : value_at (s ∷ ss) (key_of r) ≡ value_at ss (key_of r) = rw (above_other (key_of s) (key_of r) parts.0) refl in
    λ i. put (with_value r (less_at (same i) r.value)) (rest_past s ss rs parts.1 i)

-- what was found so far and the rest of the remaining lists make the whole rest
pub record IsRestOf (left whole part all : List Resource) : Type 0 where
  pub so_far : left ++ rest whole part ≡ all
  pub in_order : IsTrue (is_in_order whole)
  pub each : All IsResource whole
  pub part_in_order : IsTrue (is_in_order part)

pub rest_begins : (whole part : List Resource) → IsBundle whole → IsTrue (is_in_order part) → IsRestOf [] whole part (rest whole part)
rest_begins whole part is ordered = record { so_far = refl; in_order = is.in_order; each = is.each; part_in_order = ordered }

tail_in_order : (a : List Resource) → IsTrue (is_in_order a) → IsTrue (is_in_order (tail a))
tail_in_order [] ordered = refl
tail_in_order (r ∷ rs) ordered = rw (tail_is r rs) (and_parts (stands_first (key_of r) rs) (is_in_order rs) ordered).1

tail_each : (a : List Resource) → All IsResource a → All IsResource (tail a)
tail_each [] all = all
tail_each (r ∷ rs) all = rw (tail_is r rs) (All-tail IsResource r rs all)

rest_left : (a b : List Resource) (y : Resource) → next_side a b ≡ Some Left → y ≡ get_or a 0 y → All IsResource a → IsTrue (is_in_order b)
    → rest a b ≡ y ∷ rest (tail a) b
rest_left [] [] y side is each ordered = cc
rest_left [] (s ∷ ss) y side is each ordered = cc
rest_left (r ∷ rs) [] y side is each ordered =
    let some : nat_lt 0 (amount_in r.value) ≡ true = lt-ltb 0 (amount_in r.value) (All-head IsResource r rs each).filled in
    let first : rest (r ∷ rs) [] ≡ r ∷ rest rs [] = rw some refl in
    first ∙ (λ i. sym is i ∷ rest (sym (tail_is r rs) i) [])
rest_left (r ∷ rs) (s ∷ ss) y side is each ordered =
    let parts = and_parts (stands_first (key_of s) ss) (is_in_order ss) ordered in
    let below = key_less (key_of r) (key_of s) (side_less (key_cmp (key_of r) (key_of s)) side) in
    let before : IsTrue (stands_first (key_of r) (s ∷ ss)) = and_from _ _ below (first_trans (key_of r) (key_of s) ss below parts.0) in
    let none : value_at (s ∷ ss) (key_of r) ≡ None = no_value (key_of r) (s ∷ ss) before in
    let some : nat_lt 0 (amount_in r.value) ≡ true = lt-ltb 0 (amount_in r.value) (All-head IsResource r rs each).filled in
    let here : rest (r ∷ rs) (s ∷ ss) ≡ put r (rest rs (s ∷ ss)) = λ i. put (with_value r (less_at (none i) r.value)) (rest rs (s ∷ ss)) in
    let first : put r (rest rs (s ∷ ss)) ≡ r ∷ rest rs (s ∷ ss) = rw some refl in
    here ∙ first ∙ (λ i. sym is i ∷ rest (sym (tail_is r rs) i) (s ∷ ss))

rest_right : (a b : List Resource) → next_side a b ≡ Some Right → IsTrue (is_in_order a) → rest a b ≡ rest a (tail b)
rest_right [] b side ordered = refl
rest_right (r ∷ rs) [] side ordered = cc
rest_right (r ∷ rs) (s ∷ ss) side ordered =
    let parts = and_parts (stands_first (key_of r) rs) (is_in_order rs) ordered in
    let below = key_greater (key_of r) (key_of s) (side_greater (key_cmp (key_of r) (key_of s)) side) in
    let before : IsTrue (stands_first (key_of s) (r ∷ rs)) = and_from _ _ below (first_trans (key_of s) (key_of r) rs below parts.0) in
    rest_past s ss (r ∷ rs) before ∙ ap (rest (r ∷ rs)) (sym (tail_is s ss))

rest_both : (a b : List Resource) (y z : Resource) → next_side a b ≡ Some Both → y ≡ get_or a 0 y → z ≡ get_or b 0 z → IsTrue (is_in_order a)
    → rest a b ≡ filled_of (with_value y (less y.value z.value) ∷ []) ++ rest (tail a) (tail b)
rest_both [] [] y z side is other ordered = cc
rest_both [] (s ∷ ss) y z side is other ordered = cc
rest_both (r ∷ rs) [] y z side is other ordered = cc
rest_both (r ∷ rs) (s ∷ ss) y z side is other ordered =
    let keys : key_of r ≡ key_of s = key_equal (key_of r) (key_of s) (side_equal (key_cmp (key_of r) (key_of s)) side) in
    let parts = and_parts (stands_first (key_of r) rs) (is_in_order rs) ordered in
    let after : IsTrue (stands_first (key_of s) rs) = subst (λ (k : Key). IsTrue (stands_first k rs)) keys parts.0 in
    let same : same_key (key_of r) (key_of s) ≡ true = subst (λ (k : Key). same_key (key_of r) k ≡ true) keys (same_key_itself (key_of r)) in
    let found : value_at (s ∷ ss) (key_of r) ≡ Some s.value = rw same refl in
    let here : rest (r ∷ rs) (s ∷ ss) ≡ put (with_value r (less r.value s.value)) (rest rs ss) =
    λ i. put (with_value r (less_at (found i) r.value)) (rest_past s ss rs after i) in
    here ∙ put_is (with_value r (less r.value s.value)) (rest rs ss)
    ∙ (λ i. filled_of (with_value (sym is i) (less (sym is i).value (sym other i).value) ∷ []) ++ rest (sym (tail_is r rs) i) (sym (tail_is s ss) i))

module _ (left a b all : List Resource) (known : IsRestOf left a b all) where
  pub left_next : (y : Resource) → next_side a b ≡ Some Left → y ≡ get_or a 0 y → rest a b ≡ y ∷ rest (tail a) b
  left_next y side is = rest_left a b y side is known.each known.part_in_order

  pub past_left : (now : List Resource) → now ++ rest (tail a) b ≡ all → IsRestOf now (tail a) b all
  past_left now so_far = record { so_far = so_far; in_order = tail_in_order a known.in_order; each = tail_each a known.each; part_in_order = known.part_in_order }

  pub past_right : next_side a b ≡ Some Right → IsRestOf left a (tail b) all
  past_right side = record {
    so_far = ap (λ (l : List Resource). left ++ l) (sym (rest_right a b side known.in_order)) ∙ known.so_far;
    in_order = known.in_order;
    each = known.each;
    part_in_order = tail_in_order b known.part_in_order;
  }

  both_next : (y z : Resource) → next_side a b ≡ Some Both → y ≡ get_or a 0 y → z ≡ get_or b 0 z
      → (left ++ filled_of (with_value y (less y.value z.value) ∷ [])) ++ rest (tail a) (tail b) ≡ all
  both_next y z side is other =
      append_assoc left (filled_of (with_value y (less y.value z.value) ∷ [])) (rest (tail a) (tail b))
      ∙ ap (λ (l : List Resource). left ++ l) (sym (rest_both a b y z side is other known.in_order))
      ∙ known.so_far

  pub both_bundle : (y z : Resource) → next_side a b ≡ Some Both → y ≡ get_or a 0 y → z ≡ get_or b 0 z → IsBundle all
      → IsBundle (left ++ filled_of (with_value y (less y.value z.value) ∷ []))
  both_bundle y z side is other bundle =
      bundle-prefix (left ++ filled_of (with_value y (less y.value z.value) ∷ [])) (rest (tail a) (tail b)) (subst IsBundle (sym (both_next y z side is other)) bundle)

  pub past_both : (now : List Resource) (y z : Resource) → next_side a b ≡ Some Both → y ≡ get_or a 0 y → z ≡ get_or b 0 z
      → now ≡ left ++ filled_of (with_value y (less y.value z.value) ∷ []) → IsRestOf now (tail a) (tail b) all
  past_both now y z side is other pushed = record {
    so_far = ap (λ (l : List Resource). l ++ rest (tail a) (tail b)) pushed ∙ both_next y z side is other;
    in_order = tail_in_order a known.in_order;
    each = tail_each a known.each;
    part_in_order = tail_in_order b known.part_in_order;
  }

pub rest_ends : (left a b all : List Resource) → IsRestOf left a b all → next_side a b ≡ None → left ≡ all
rest_ends left [] [] all known side = sym (append-nil left) ∙ known.so_far
rest_ends left [] (s ∷ ss) all known side = cc
rest_ends left (r ∷ rs) [] all known side = cc
rest_ends left (r ∷ rs) (s ∷ ss) all known side = cc
