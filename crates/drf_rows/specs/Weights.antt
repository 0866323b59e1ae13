-- The weights of roles, in thousandths (Mesos: weights).
use Rattle.std.specs.Prelude.{ℕ, ◌+◌, Bool, not, ◌&&◌, List, [], ◌∷◌, length, if◌then◌else◌, nat_lt, nat_le}
use Rattle.std.specs.List.{list_all, list_any}
use Rattle.drf_role.specs.Path.{Path, same_path}
use Rattle.drf_rows.specs.LimitNumbers.{LimitNumbers}
use Rattle.drf_rows.specs.declared.rows.WeightRow.{WeightRow}
use Rattle.drf_rows.specs.declared.rows.Rows.{Rows}

-- a weight is from 0.001 to 1000
abbrev pub is_weight : ℕ → Bool
is_weight weight = nat_le 1 weight && nat_le weight 1000000

-- all rows have a valid weight
abbrev pub are_weights : List WeightRow → Bool
are_weights weights = list_all (λ w. is_weight w.weight) weights

-- the role has a row
abbrev pub has_weight : Rows → Path → Bool
has_weight rows role = list_any (λ w. same_path w.role role) rows.weights

-- a new row for the role would exceed the capacity
abbrev pub too_many_weights : LimitNumbers → Rows → Path → Bool
too_many_weights limits rows role = not (has_weight rows role) && nat_lt limits.weights (length rows.weights + 1)

-- the rows with the weight of the role set: its row keeps its place, and a new row is added last
abbrev pub weights_with : List WeightRow → Path → ℕ → List WeightRow
weights_with [] role weight = record { role = role; weight = weight } ∷ []
weights_with (w ∷ ws) role weight =
    if same_path w.role role then record w { weight = weight } ∷ ws else w ∷ weights_with ws role weight
