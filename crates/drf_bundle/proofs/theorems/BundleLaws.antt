-- Lemmas about `specs/laws/BundleLaws.antt`.
use Rattle.std.specs.Prelude.{◌≡◌, ◌↔◌, true, List}
use Rattle.drf_amount.specs.Algebra.{Covers, IsRest}
use Rattle.drf_bundle.specs.Bundle.{IsBundle, join, rest, covers}
use Rattle.drf_bundle.proofs.theorems.RestLaws.{bundle-rest, covered_units, covers_units, rest_join, covered_of_rest}
use Rattle.drf_bundle.specs.declared.resource.Resource.{Resource}

-- `rest` is the rest of a bundle that covers the part
pub is_rest : (whole part : List Resource) → IsBundle whole → IsBundle part → covers whole part ≡ true
    → IsRest IsBundle join whole part (rest whole part)
is_rest whole part first second all = record {
  given = bundle-rest whole part first;
  joined = rest_join whole part first second (covered_units whole part first.in_order second.in_order all);
}

-- a bundle covers another exactly if it is the join of the other with some bundle
pub covers_exact : (whole part : List Resource) → IsBundle whole → IsBundle part
    → (covers whole part ≡ true) ↔ Covers IsBundle join whole part
covers_exact whole part first second = (
  λ all. record { rest = rest whole part; is_rest = is_rest whole part first second all },
  λ some. covers_units whole part first.in_order second.in_order second.each (covered_of_rest whole part second some),
)
