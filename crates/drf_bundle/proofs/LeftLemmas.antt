-- The rest of a bundle after parts are removed one after another, resource by resource.
use Rattle.std.specs.Prelude.{◌≡◌, ◌-◌, ◌≤◌, ◌<◌, List, [], ◌∷◌, map, Option, Some, None}
use Rattle.std.specs.List.{AllByRecursion}
use Rattle.std.proofs.Common.{refl, sym, ◌∙◌, arith}
use Rattle.std.proofs.lemmas.List.Sums.{sum_by-cons}
use Rattle.drf_bundle.specs.Value.{Point, units_in, amount_in, IsGiven}
use Rattle.drf_bundle.specs.Bundle.{Key, key_of, units, value_at, less_at, with_value, filled_of, IsResource, IsBundle}
use Rattle.drf_bundle.specs.Taken.{less_all, rest_of_all, units_of_all}
use Rattle.drf_bundle.proofs.theorems.ValueLaws.{units-less, given-less}
use Rattle.drf_bundle.proofs.theorems.KeyLaws.{units_found, units_at}
use Rattle.drf_bundle.proofs.theorems.RestLaws.{KeepsKeys, bundle-changed, units-changed}
use Rattle.drf_bundle.specs.laws.BundleLaws.{known_by_units}
use Rattle.drf_bundle.proofs.theorems.TakenLaws.{bundle-rest_of_all, units-rest_of_all}
use Rattle.drf_bundle.specs.declared.resource.Resource.{Resource}
use Rattle.drf_bundle.specs.declared.value.Value.{Value}

-- the resource with what the parts leave of its value
abbrev pub left_after : List (List Resource) → Resource → Resource
left_after parts r = with_value r (less_all parts (key_of r) r.value)

units-less_at : (found : Option Value) (v : Value) (p : Point) → units_in (less_at found v) p ≡ units_in v p - units_at found p
units-less_at None v p = omega arith
units-less_at (Some part) v p = units-less v part p

units-less_all : (parts : List (List Resource)) (key : Key) (v : Value) (p : Point) → AllByRecursion IsBundle parts
    → units_in (less_all parts key v) p ≡ units_in v p - units_of_all parts key p
units-less_all [] key v p each = omega arith
units-less_all (part ∷ parts) key v p each = omega (
  arith,
  units-less_all parts key (less_at (value_at part key) v) p each.1,
  units-less_at (value_at part key) v p,
  units_found part key p each.0.in_order,
  sum_by-cons (λ (part : List Resource). units part key p) part parts,
)

given-less_at : (found : Option Value) (v : Value) → IsGiven v → IsGiven (less_at found v)
given-less_at None v given = given
given-less_at (Some part) v given = given-less v part given

given-less_all : (parts : List (List Resource)) (key : Key) (v : Value) → IsGiven v → IsGiven (less_all parts key v)
given-less_all [] key v given = given
given-less_all (part ∷ parts) key v given = given-less_all parts key (less_at (value_at part key) v) (given-less_at (value_at part key) v given)

keeps-left_after : (parts : List (List Resource)) → KeepsKeys (left_after parts)
keeps-left_after parts r = refl

module _ (whole : List Resource) (parts : List (List Resource)) (is : IsBundle whole) (each : AllByRecursion IsBundle parts) where
  pub bundle-left_after : IsBundle (filled_of (map (left_after parts) whole))
  bundle-left_after = bundle-changed (left_after parts) (keeps-left_after parts) falls passes whole is
    where
      falls : (r : Resource) (p : Point) → units_in (left_after parts r).value p ≤ units_in r.value p
      falls r p = omega (arith, units-less_all parts (key_of r) r.value p each)

      passes : (r : Resource) → IsResource r → 0 < amount_in (left_after parts r).value → IsResource (left_after parts r)
      passes r is filled = record {
        label = is.label;
        role = is.role;
        role_read = is.role_read;
        value = given-less_all parts (key_of r) r.value is.value;
        filled = filled;
      }

  -- all of them together are the rest of the bundle
  pub left_after_all : filled_of (map (left_after parts) whole) ≡ rest_of_all whole parts
  left_after_all =
      known_by_units (filled_of (map (left_after parts) whole)) (rest_of_all whole parts) bundle-left_after (bundle-rest_of_all whole parts is)
      (λ key p. units-changed (left_after parts) (keeps-left_after parts) (λ key p n. n - units_of_all parts key p) (λ key p. omega arith)
      (λ r p. units-less_all parts (key_of r) r.value p each) whole key p is.in_order
      ∙ sym (units-rest_of_all whole parts key p is each))
