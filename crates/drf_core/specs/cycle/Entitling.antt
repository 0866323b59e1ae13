-- What a role can have of the free resources in a turn, and what a client is granted of them.
use Rattle.std.specs.Prelude.{◌≡◌, ℕ, Bool, IsTrue, true, not, ◌&&◌, nat_le, codes, ◌||◌, List, [], drop, take, Option, Some, None, if◌then◌else◌}
use Rattle.std.specs.Option.{option_map_or, MatchOption}
use Rattle.drf_role.specs.Text.{Text, same_text}
use Rattle.drf_role.specs.Path.{Path, begins_with, client_path, same_path}
use Rattle.drf_role.specs.Role.{IsRole}
use Rattle.drf_bundle.specs.Bundle.{is_default, is_unreserved}
use Rattle.drf_bundle.specs.declared.resource.Resource.{Resource}
use Rattle.drf_gates.specs.quota.Allowance.{Allowance, IsAllowanceOf}
use Rattle.drf_rows.specs.Client.{Client, path_of}
use Rattle.drf_rows.specs.Cycle.{is_allocatable}
use Rattle.drf_rows.specs.Quota.{entitlement, headroom_at, unreserved_in}
use Rattle.drf_rows.specs.declared.rows.Rows.{Rows}
use Rattle.drf_sorter.specs.Passed.{IsPassedPrefix}
use Rattle.drf_core.specs.declared.cycle.free.ForEveryone.{ForEveryone}
use Rattle.drf_core.specs.declared.cycle.free.Free.{Free}
use Rattle.drf_core.specs.declared.cycle.free.Known.{Known}
use Rattle.drf_core.specs.declared.cycle.free.Known.TheVariants.{Nothing, Part, Barred}

-- the limits and the consumption are those of the rows; without a quota, no role has a limit
abbrev pub IsQuotaOf : Rows → Option Allowance → Type 0
IsQuotaOf rows quota = MatchOption quota (rows.limits ≡ []) (IsAllowanceOf rows)

-- the bundle is what clients of the role can have of the free resources, in all rows with this quota
abbrev pub IsEntitlement : Option Allowance → List Resource → Path → List Resource → Type 0
IsEntitlement quota free role bundle =
    (rows : Rows) (client : Client) → IsQuotaOf rows quota → client.role ≡ role → bundle ≡ entitlement rows free client

-- the resource is of `cpus` or `mem`, the scalars that decide whether an offer is made
abbrev pub is_of_worth : Resource → Bool
is_of_worth r = same_text r.label (codes "cpus") || same_text r.label (codes "mem")

-- the resource is of such a scalar, and reserved
abbrev pub is_reserved : Resource → Bool
is_reserved r = is_of_worth r && not (is_default r.role)

-- it is reserved for the role or for a role above it
abbrev pub is_reserved_for : Path → Resource → Bool
is_reserved_for role r = is_reserved r && begins_with role r.role

-- it is reserved for a role that has the first `len` parts in common with this role
abbrev pub is_reserved_near : Path → ℕ → Resource → Bool
is_reserved_near role len r = is_reserved r && same_path (take len r.role) (take len role)

-- at least this much of a scalar is free and unreserved, and the headroom of the role, if any, leaves that much
abbrev pub has_at_least : Rows → List Resource → Path → Text → ℕ → Bool
has_at_least rows free role label least =
    nat_le least (unreserved_in label free) && option_map_or (nat_le least) (headroom_at rows role label) true

-- a bundle, if it is enough for an offer
abbrev pub if_allocatable : List Resource → Option (List Resource)
if_allocatable bundle = if is_allocatable bundle then Some bundle else None

-- the part is what clients of the role can have of the free resources, in all rows with this quota, if that is enough for an offer
abbrev pub IsOffered : Option Allowance → List Resource → Path → Option (List Resource) → Type 0
IsOffered quota free role part =
    (rows : Rows) (client : Client) → IsQuotaOf rows quota → client.role ≡ role → part ≡ if_allocatable (entitlement rows free client)

-- in all rows with this quota, clients of the role can have nothing that is enough for an offer, nor can any client whose path begins with the first
-- `prefix` parts of their paths
pub record IsBarred (quota : Option Allowance) (free : List Resource) (role : Path) (prefix : ℕ) : Type 0 where
  pub offered : IsOffered quota free role None
  pub alike : (rows : Rows) (client : Client) (framework : Text) → IsQuotaOf rows quota → IsRole client.role
      → take prefix (path_of client) ≡ take prefix (client_path role framework) → None ≡ if_allocatable (entitlement rows free client)

-- what is known about a role holds in all rows with this quota
abbrev pub IsKnownOf : Option Allowance → List Resource → Known → Type 0
IsKnownOf quota free Nothing = Unit {0}
IsKnownOf quota free (Part role part) = IsOffered quota free role (Some part)
IsKnownOf quota free (Barred role prefix) = IsBarred quota free role prefix

-- the role about which something is known
abbrev pub known_role : Known → Option Path
known_role Nothing = None
known_role (Part role part) = Some role
known_role (Barred role prefix) = Some role

-- the part that the role can have
abbrev pub known_part : Known → Option (List Resource)
known_part (Part role part) = Some part
known_part known = None

-- the amounts are how much `cpus` and `mem` is free and unreserved
pub record IsForEveryone (free : List Resource) (amounts : ForEveryone) : Type 0 where
  pub cpus : amounts.cpus ≡ unreserved_in (codes "cpus") free
  pub mem : amounts.mem ≡ unreserved_in (codes "mem") free

-- the stored amounts, if there are any, are right
abbrev pub IsEveryonesKnown : Free → Type 0
IsEveryonesKnown free = MatchOption free.for_everyone (Unit {0}) (IsForEveryone free.bundle)

-- it is known whether the free resources are enough for an offer; whatever else is stored is right too
pub record IsKnown (quota : Option Allowance) (free : Free) : Type 0 where
  pub worth : free.is_worth ≡ is_allocatable free.bundle
  pub unreserved : IsTrue free.is_unreserved → is_unreserved free.bundle ≡ true
  pub everyone : IsEveryonesKnown free
  pub right : IsKnownOf quota free.bundle free.known

-- the client that was tried is removed from the queue, and possibly barred clients directly after it
abbrev pub IsPassedOver : Known → List Path → List Path → Type 0
IsPassedOver (Barred role prefix) old new = IsPassedPrefix prefix old new
IsPassedOver known old new = new ≡ drop 1 old
