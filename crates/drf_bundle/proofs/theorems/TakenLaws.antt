-- The rest of a bundle joins with the removed parts to the bundle, and nothing else does.
use Rattle.std.specs.Prelude.{◌≡◌, ℕ, ◌+◌, ◌-◌, List, [], ◌∷◌, ◌++◌, sum_by, Option, Some, None, option_and_then}
use Rattle.std.specs.List.{AllByRecursion}
use Rattle.std.proofs.Common.{refl, sym, ap, ◌∙◌, arith}
use Rattle.std.proofs.lemmas.List.Sums.{sum_by-cons, sum_by-append}
use Rattle.drf_bundle.specs.Value.{Point}
use Rattle.drf_role.specs.Text.{Text}
use Rattle.drf_bundle.specs.Bundle.{Key, units, stock, IsBundle, join, rest}
use Rattle.drf_bundle.specs.Taken.{rest_of_all, joined, units_of_all, TakenAndLeftJoin, OnlyTheRestJoins}
use Rattle.drf_bundle.specs.laws.BundleLaws.{known_by_units, bundle-empty}
use Rattle.drf_bundle.specs.laws.FitLaws.{join_some}
use Rattle.drf_bundle.proofs.theorems.RestLaws.{units-rest, bundle-rest}
use Rattle.drf_bundle.proofs.theorems.UnitProofs.{join_by_units}
use Rattle.drf_bundle.specs.declared.resource.Resource.{Resource}

-- ---- the rest, by units

pub bundle-rest_of_all : (whole : List Resource) (parts : List (List Resource)) → IsBundle whole → IsBundle (rest_of_all whole parts)
bundle-rest_of_all whole [] is = is
bundle-rest_of_all whole (part ∷ parts) is = bundle-rest_of_all (rest whole part) parts (bundle-rest whole part is)

pub units-rest_of_all : (whole : List Resource) (parts : List (List Resource)) (key : Key) (p : Point)
    → IsBundle whole → AllByRecursion IsBundle parts
    → units (rest_of_all whole parts) key p ≡ units whole key p - units_of_all parts key p
units-rest_of_all whole [] key p is each = omega arith
units-rest_of_all whole (part ∷ parts) key p is each = omega (
  arith,
  units-rest_of_all (rest whole part) parts key p (bundle-rest whole part is) each.1,
  units-rest whole part key p is.in_order each.0.in_order,
  sum_by-cons (λ (part : List Resource). units part key p) part parts,
)

-- it does not matter at which place a part is among the others
pub rest_of_all-insert : (whole : List Resource) (before after : List (List Resource)) (part : List Resource)
    → IsBundle whole → AllByRecursion IsBundle (before ++ after) → AllByRecursion IsBundle (before ++ part ∷ after) → IsBundle part
    → rest_of_all whole (before ++ part ∷ after) ≡ rest (rest_of_all whole (before ++ after)) part
rest_of_all-insert whole before after part is others each one =
    let left : List Resource = rest_of_all whole (before ++ after) in
    known_by_units (rest_of_all whole (before ++ part ∷ after)) (rest left part)
    (bundle-rest_of_all whole (before ++ part ∷ after) is) (bundle-rest left part (bundle-rest_of_all whole (before ++ after) is))
    (λ key p. let of : List Resource → ℕ = λ part. units part key p in omega (
      arith,
      units-rest_of_all whole (before ++ part ∷ after) key p is each,
      units-rest left part key p (bundle-rest_of_all whole (before ++ after) is).in_order one.in_order,
      units-rest_of_all whole (before ++ after) key p is others,
      sum_by-append of before (part ∷ after),
      sum_by-cons of part after,
      sum_by-append of before after,
    ))

-- ---- the rest joined with the parts

-- they join to the whole if it has the units of all parts
pub joined-rest_of_all : TakenAndLeftJoin
joined-rest_of_all whole [] is each covered = refl
joined-rest_of_all whole (part ∷ parts) is each covered =
    let left : List Resource = rest_of_all (rest whole part) parts in
    let more : (key : Key) (p : Point) → units_of_all (part ∷ parts) key p ≡ units part key p + units_of_all parts key p
    = λ key p. sum_by-cons (λ (part : List Resource). units part key p) part parts in
    let back : join left part ≡ Some (rest_of_all whole parts) =
    (join_by_units left part (rest_of_all whole parts) (bundle-rest_of_all (rest whole part) parts (bundle-rest whole part is)) each.0
    (bundle-rest_of_all whole parts is)).1
    (λ key p. omega (
      arith,
      covered key p,
      more key p,
      units-rest_of_all whole (part ∷ parts) key p is each,
      units-rest_of_all whole parts key p is each.1,
    )) in
    ap (option_and_then (λ both. joined both parts)) back
    ∙ joined-rest_of_all whole parts is each.1 (λ key p. omega (arith, covered key p, more key p))

-- a quantity that adds up in a join
abbrev pub AddsUp : (List Resource → ℕ) → Type 0
AddsUp of = (a b whole : List Resource) → IsBundle a → IsBundle b → join a b ≡ Some whole → of whole ≡ of a + of b

-- it adds up in the join of all parts
pub sum-joined : (of : List Resource → ℕ) → AddsUp of → (bundle whole : List Resource) (parts : List (List Resource))
    → IsBundle bundle → AllByRecursion IsBundle parts → joined bundle parts ≡ Some whole
    → of whole ≡ of bundle + sum_by of parts
sum-joined of adds bundle whole [] is each same =
    let one : bundle ≡ whole = cc in
    omega (arith, ap of one)
sum-joined of adds bundle whole (part ∷ parts) is each same =
    by (join bundle part) refl (λ both some known. sum-joined of adds both whole parts known each.1 some)
  where
    by : (found : Option (List Resource)) → join bundle part ≡ found
        → ((both : List Resource) → joined both parts ≡ Some whole → IsBundle both → of whole ≡ of both + sum_by of parts)
        → of whole ≡ of bundle + sum_by of (part ∷ parts)
    by None none later =
        let absent : ◌≡◌ {A = Option (List Resource)} None (Some whole) = ap (option_and_then (λ both. joined both parts)) (sym none) ∙ same in
        cc
    by (Some both) some later =
        let here = join_some bundle part both is each.0 some in
        omega (
          arith,
          later both (ap (option_and_then (λ both. joined both parts)) (sym some) ∙ same) here.bundle,
          adds bundle part both is each.0 some,
          sum_by-cons of part parts,
        )

pub units-adds_up : (key : Key) (p : Point) → AddsUp (λ bundle. units bundle key p)
units-adds_up key p a b whole first second same = (join_some a b whole first second same).units_add key p

pub stock-adds_up : (name : Text) (p : Point) → AddsUp (λ bundle. stock bundle name p)
stock-adds_up name p a b whole first second same = (join_some a b whole first second same).stocks_add name p

-- nothing else joins with the parts to the whole
pub only_rest_of_all : OnlyTheRestJoins
only_rest_of_all bundle whole parts first is each same =
    known_by_units bundle (rest_of_all whole parts) first (bundle-rest_of_all whole parts is)
    (λ key p. omega (arith, units-rest_of_all whole parts key p is each, sum-joined (λ rs. units rs key p) (units-adds_up key p) bundle whole parts first each same))

-- nothing is left of a bundle without itself
pub rest-itself : (bundle : List Resource) → IsBundle bundle → rest bundle bundle ≡ []
rest-itself bundle is =
    known_by_units (rest bundle bundle) [] (bundle-rest bundle bundle is) bundle-empty
    (λ key p. omega (arith, units-rest bundle bundle key p is.in_order is.in_order))
