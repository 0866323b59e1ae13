-- Setting a weight changes the weight of its role and no other. Weights stay in their range.
use Rattle.std.specs.Prelude.{◌≡◌, ℕ, true, false, List, map}
use Rattle.drf_role.specs.Path.{Path, same_path}
use Rattle.drf_rows.specs.Held.{weight_of}
use Rattle.drf_rows.specs.LimitNumbers.{LimitNumbers}
use Rattle.drf_rows.specs.Step.{opening, effect, rows_after_all}
use Rattle.drf_rows.specs.Consistent.{are_distinct_roles, IsConsistent}
use Rattle.drf_rows.specs.declared.event.Event.{Event}
use Rattle.drf_rows.specs.declared.event.Event.TheVariants.{SetWeight}
use Rattle.drf_rows.specs.declared.rows.Rows.{Rows}

-- the state after the event
abbrev after : Rows → Path → ℕ → Rows
after rows role weight = effect rows (SetWeight role weight)

-- the roles that have a weight
abbrev pub weighed_roles : Rows → List Path
weighed_roles rows = map (λ w. w.role) rows.weights

-- the role has the weight
abbrev pub RoleHasItsWeight : Type 0
RoleHasItsWeight = (rows : Rows) (role : Path) (weight : ℕ) → weight_of (after rows role weight).weights role ≡ weight

-- every other node keeps its weight
abbrev pub OthersKeepTheirWeight : Type 0
OthersKeepTheirWeight =
    (rows : Rows) (role : Path) (weight : ℕ) (node : Path)
    → same_path role node ≡ false
    → weight_of (after rows role weight).weights node ≡ weight_of rows.weights node

-- no role gets a second row
abbrev pub EachHasOneRow : Type 0
EachHasOneRow =
    (rows : Rows) (role : Path) (weight : ℕ) → IsConsistent rows → are_distinct_roles (weighed_roles (after rows role weight)) ≡ true

-- so in no run from the start does a role have two rows
abbrev pub NoRoleHasTwoRows : Type 0
NoRoleHasTwoRows =
    (limits : LimitNumbers) (events : List Event) → are_distinct_roles (weighed_roles (rows_after_all limits opening events)) ≡ true
