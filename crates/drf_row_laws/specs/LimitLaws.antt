-- Setting a limit changes the limit of its role, and nothing else.
use Rattle.std.specs.Prelude.{◌≡◌, false, List, Some, None, if◌then◌else◌}
use Rattle.drf_role.specs.Path.{Path, same_path}
use Rattle.drf_bundle.specs.declared.quantities.Entry.{Entry}
use Rattle.drf_rows.specs.Quota.{limit_of}
use Rattle.drf_rows.specs.Offers.{is_empty}
use Rattle.drf_rows.specs.Step.{effect}
use Rattle.drf_rows.specs.Consistent.{IsConsistent}
use Rattle.drf_rows.specs.declared.event.Event.TheVariants.{SetLimit}
use Rattle.drf_rows.specs.declared.rows.Rows.{Rows}

-- the role has the new limit, or none if it is empty
abbrev pub RoleHasItsLimit : Type 0
RoleHasItsLimit =
    (rows : Rows) (role : Path) (limit : List Entry)
    → IsConsistent rows
    → limit_of (effect rows (SetLimit role limit)).limits role ≡ (if is_empty limit then None else Some limit)

-- every other role keeps its limit
abbrev pub OthersKeepTheirLimit : Type 0
OthersKeepTheirLimit =
    (rows : Rows) (role : Path) (limit : List Entry) (other : Path)
    → same_path role other ≡ false
    → limit_of (effect rows (SetLimit role limit)).limits other ≡ limit_of rows.limits other

-- however low the limit is, offers, tasks and everything else stay
abbrev pub LimitTakesNothing : Type 0
LimitTakesNothing =
    (rows : Rows) (role : Path) (limit : List Entry)
    → let after : Rows = effect rows (SetLimit role limit) in
    after ≡ record rows { limits = after.limits }
