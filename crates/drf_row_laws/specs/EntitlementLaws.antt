-- The entitlement of a client to a free bundle, in units: reserved resources go only to their role and the roles below
-- it, and each unreserved scalar is cut to the headroom if a limit names it.
use Rattle.std.specs.Prelude.{◌≡◌, ℕ, min, List, [], ◌∷◌, if◌then◌else◌}
use Rattle.std.specs.Option.{option_map_or}
use Rattle.drf_role.specs.Path.{Path}
use Rattle.drf_role.specs.Parts.{parts_of}
use Rattle.drf_bundle.specs.Value.{Point, Thousandths, Number, Member}
use Rattle.drf_bundle.specs.Bundle.{Key, IsBundle, units}
use Rattle.drf_bundle.specs.declared.resource.Resource.{Resource}
use Rattle.drf_rows.specs.Client.{Client}
use Rattle.drf_rows.specs.Quota.{is_within, headroom_at, entitlement}
use Rattle.drf_rows.specs.declared.rows.Rows.{Rows}

-- of n free units at a key, how many a client of the role can have: of an unreserved scalar at most the headroom, if
-- there is one; of other unreserved resources all; and of reserved ones all if they are for the role or a role above
-- it, and otherwise none
abbrev pub units_for : Rows → Path → Key → Point → ℕ → ℕ
units_for rows role (label, []) Thousandths n = option_map_or (min n) (headroom_at rows role label) n
units_for rows role (label, []) (Number m) n = n
units_for rows role (label, []) (Member m) n = n
units_for rows role (label, byte ∷ bytes) p n = if is_within (parts_of (byte ∷ bytes)) role then n else 0

abbrev pub EntitledByUnits : Type 0
EntitledByUnits =
    (rows : Rows) (free : List Resource) (client : Client) (key : Key) (p : Point)
    → IsBundle free
    → units (entitlement rows free client) key p ≡ units_for rows client.role key p (units free key p)
