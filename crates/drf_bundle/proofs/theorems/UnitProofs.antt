-- Joins, rests and covering, in terms of units.
use Rattle.std.specs.Prelude.{◌&&◌, ◌≡◌, ◌≤◌, List, ◌+◌, ◌<◌, [], ◌∷◌, All}
use Rattle.std.proofs.Common.{sym, ap, ◌∙◌, arith}
use Rattle.drf_bundle.specs.Value.{Point, Thousandths, amount_in}
use Rattle.drf_bundle.specs.Bundle.{Key, same_key, units, join, rest, is_default, is_for, part_for, clipped, clip, IsResource, with_value, add_scalar, add_scalars, quantities_of}
use Rattle.drf_bundle.specs.laws.FitLaws.{join_some}
use Rattle.drf_bundle.proofs.theorems.RestLaws.{covered_units, covers_units, rest_join, units-rest, bundle-rest, where-changed-le}
use Rattle.drf_bundle.proofs.theorems.PartLaws.{where-some, bundle-part_for, keeps-clipped, cut-falls, bundle-clip, bundle-relabel, relabel-stock}
use Rattle.drf_bundle.specs.Quantities.{amount_of, is_named, HasNoZeros, plus}
use Rattle.drf_bundle.specs.laws.BundleLaws.{known_by_units}
use Rattle.drf_bundle.specs.laws.UnitLaws.{JoinHasUnitsOfBoth, StocksAdd, CoversByUnits, RestHasTheOthers, RestAndPartJoin, PartIsCovered, ClippedIsCovered, MovedIsBundle, MovedKeepsStocks, QuantitiesHaveNoZeros, QuantitiesAdd}
use Rattle.std.proofs.lemmas.List.Elements.{All-head, All-tail}
use Rattle.drf_bundle.proofs.theorems.QuantitiesLaws.{in_order-with, above_zero-with, no_zeros-empty, no_zeros-plus, same_quantities, amount-plus}
use Rattle.drf_bundle.proofs.theorems.SumLaws.{amount-quantities_of}
use Rattle.drf_bundle.specs.declared.value.Value.TheVariants.{Scalar, Ranges, Items}
use Rattle.drf_bundle.specs.declared.value.Value.{Value}
use Rattle.drf_bundle.specs.declared.quantities.Entry.{Entry}
use Rattle.drf_bundle.specs.declared.resource.Resource.{Resource}

-- if a bundle has the units of two others, it covers both and the first is the rest without the second, so it is their
-- join
pub join_by_units : JoinHasUnitsOfBoth
join_by_units a b whole first second is = (
  λ joined key p. (join_some a b whole first second joined).units_add key p,
  λ add.
      let covered : (key : Key) (p : Point) → units b key p ≤ units whole key p = λ key p. omega (arith, add key p) in
      let left : rest whole b ≡ a = known_by_units (rest whole b) a (bundle-rest whole b is) first (λ key p. omega (arith, units-rest whole b key p is.in_order second.in_order, add key p)) in
      ap (λ (r : List Resource). join r b) (sym left) ∙ rest_join whole b is second covered,
)

pub stocks_add : StocksAdd
stocks_add a b whole first second joined name p = (join_some a b whole first second joined).stocks_add name p

pub covers_by_units : CoversByUnits
covers_by_units whole part first second =
    (λ all. covered_units whole part first.in_order second.in_order all, λ below. covers_units whole part first.in_order second.in_order second.each below)

pub rest_by_units : RestHasTheOthers
rest_by_units whole part first second key p = units-rest whole part key p first.in_order second.in_order

pub rest_and_part : RestAndPartJoin
rest_and_part whole part first second all = rest_join whole part first second (covered_units whole part first.in_order second.in_order all)

-- ---- bundles that are made from others

pub part_covered : PartIsCovered
part_covered role bundle is =
    let part = bundle-part_for role bundle is in
    (part, covers_units bundle (part_for role bundle) is.in_order part.in_order part.each (λ key p. where-some (is_for role) (same_key key) p bundle))

pub clipped_covered : ClippedIsCovered
clipped_covered limits bundle is =
    let part = bundle-clip limits bundle is in (
      part,
      covers_units bundle (clip limits bundle) is.in_order part.in_order part.each
          (λ key p. where-changed-le (clipped limits) (keeps-clipped limits) (λ r q. cut-falls (is_default r.role && is_named limits r.label) (amount_of limits r.label) r.value q) (same_key key) p bundle),
    )

pub moved_bundle : MovedIsBundle
moved_bundle role bundle is_role read all is = bundle-relabel role is_role read bundle all is

pub moved_stocks : MovedKeepsStocks
moved_stocks role bundle name p = relabel-stock role name p bundle

-- ---- quantities

pub no_zeros-add_scalar : (sums : List Entry) (r : Resource) → 0 < amount_in r.value → HasNoZeros sums
    → HasNoZeros (add_scalar sums r)
no_zeros-add_scalar sums r filled is = by r.value filled
  where
    by : (v : Value) → 0 < amount_in v → HasNoZeros (add_scalar sums (with_value r v))
    by (Scalar t) some = record {
      in_order = in_order-with sums r.label (amount_of sums r.label + t) is.in_order;
      above_zero = above_zero-with sums r.label (amount_of sums r.label + t) (omega (arith, some)) is.above_zero;
    }
    by (Ranges a) some = is
    by (Items a) some = is

no_zeros-add_scalars : (sums : List Entry) (rs : List Resource) → All IsResource rs → HasNoZeros sums
    → HasNoZeros (add_scalars sums rs)
no_zeros-add_scalars sums [] each is = is
no_zeros-add_scalars sums (r ∷ rs) each is =
    no_zeros-add_scalars (add_scalar sums r) rs (All-tail IsResource r rs each)
    (no_zeros-add_scalar sums r (All-head IsResource r rs each).filled is)

pub quantities_no_zeros : QuantitiesHaveNoZeros
quantities_no_zeros bundle is = no_zeros-add_scalars [] bundle is.each no_zeros-empty

pub quantities_add : QuantitiesAdd
quantities_add a b whole first second joined =
    let join = join_some a b whole first second joined in
    let one = quantities_no_zeros a first in
    let other = quantities_no_zeros b second in
    same_quantities (quantities_of whole) (plus (quantities_of a) (quantities_of b))
    (quantities_no_zeros whole join.bundle) (no_zeros-plus (quantities_of a) (quantities_of b) one other)
    (λ n. omega (
      arith,
      amount-quantities_of whole n,
      amount-plus (quantities_of a) (quantities_of b) n other.in_order,
      amount-quantities_of a n,
      amount-quantities_of b n,
      join.stocks_add n Thousandths,
    ))
