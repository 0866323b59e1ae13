-- Theorems by which the code decides without allocating memory whether a bundle covers all parts together.
use Rattle.std.specs.Prelude.{Bool, true, ◌&&◌, List, [], ◌∷◌, is_some, nat_le}
use Rattle.std.specs.List.{list_all}
use Rattle.drf_bundle.specs.Value.{Thousandths}
use Rattle.drf_bundle.specs.Bundle.{key_of, units, join}
use Rattle.drf_bundle.specs.Taken.{units_of_all}
use Rattle.drf_bundle.specs.declared.resource.Resource.{Resource}

-- ---- the test in the code: each part is covered, each two parts have a join, and there is enough of each scalar

-- the part has a join with each of the others
abbrev pub is_apart : List Resource → List (List Resource) → Bool
is_apart part others = list_all (λ other. is_some (join part other)) others

abbrev pub are_apart : List (List Resource) → Bool
are_apart [] = true
are_apart (part ∷ parts) = is_apart part parts && are_apart parts

-- there is enough of the scalar of the resource for all parts
abbrev pub is_enough : List Resource → List (List Resource) → Resource → Bool
is_enough whole parts r = nat_le (units_of_all parts (key_of r) Thousandths) (units whole (key_of r) Thousandths)
