-- Removing parts from a bundle, and the rest of it.
use Rattle.std.specs.Prelude.{◌≡◌, ℕ, ◌≤◌, List, [], ◌∷◌, fold, sum_by, Option, Some, option_and_then}
use Rattle.std.specs.List.{AllByRecursion}
use Rattle.drf_bundle.specs.Value.{Point}
use Rattle.drf_bundle.specs.Bundle.{Key, units, value_at, less_at, IsBundle, join, rest}
use Rattle.drf_bundle.specs.declared.resource.Resource.{Resource}
use Rattle.drf_bundle.specs.declared.value.Value.{Value}

-- the rest of a bundle after the parts are removed, one after another
abbrev pub rest_of_all : List Resource → List (List Resource) → List Resource
rest_of_all whole parts = fold rest whole parts

-- the rest of a value at a key after the parts are removed
abbrev pub less_all : List (List Resource) → Key → Value → Value
less_all [] key v = v
less_all (part ∷ parts) key v = less_all parts key (less_at (value_at part key) v)

-- the join of a bundle and all parts, if there is one
abbrev pub joined : List Resource → List (List Resource) → Option (List Resource)
joined bundle [] = Some bundle
joined bundle (part ∷ parts) = option_and_then (λ both. joined both parts) (join bundle part)

-- the units of all parts together
abbrev pub units_of_all : List (List Resource) → Key → Point → ℕ
units_of_all parts key p = sum_by (λ part. units part key p) parts

-- if the bundle has the units of all parts, the rest after they are removed joins with them to the bundle
abbrev pub TakenAndLeftJoin : Type 0
TakenAndLeftJoin = (whole : List Resource) (parts : List (List Resource)) → IsBundle whole → AllByRecursion IsBundle parts
    → ((key : Key) (p : Point) → units_of_all parts key p ≤ units whole key p)
    → joined (rest_of_all whole parts) parts ≡ Some whole

-- nothing else joins with them to the bundle
abbrev pub OnlyTheRestJoins : Type 0
OnlyTheRestJoins = (bundle whole : List Resource) (parts : List (List Resource))
    → IsBundle bundle → IsBundle whole → AllByRecursion IsBundle parts → joined bundle parts ≡ Some whole
    → bundle ≡ rest_of_all whole parts
