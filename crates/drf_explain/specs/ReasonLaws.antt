-- What each outcome means for the cycle: why a client gets nothing on an agent, what it gets, and from when on.
use Rattle.std.specs.Prelude.{◌≡◌, ◌≢◌, ◌↔◌, ℕ, ◌<◌, ◌≤◌, true, false, List, Some, None, IsTrue, slice_get, codes}
use Rattle.std.specs.List.{AllByRecursion}
use Rattle.drf_role.specs.Text.{Text}
use Rattle.drf_role.specs.Path.{Path}
use Rattle.drf_bundle.specs.Bundle.{is_default, part_for, quantities_of}
use Rattle.drf_bundle.specs.Quantities.{amount_of}
use Rattle.drf_bundle.specs.declared.resource.Resource.{Resource}
use Rattle.drf_rows.specs.Client.{Client}
use Rattle.drf_rows.specs.Cycle.{free_of, is_allocatable, grant, at_timestamp}
use Rattle.drf_rows.specs.Filters.{holds_back}
use Rattle.drf_rows.specs.Offers.{is_empty}
use Rattle.drf_rows.specs.Quota.{binds, consumption, entitlement, headroom_at, is_within, room_under}
use Rattle.drf_rows.specs.declared.rows.AgentRow.{AgentRow}
use Rattle.drf_rows.specs.declared.rows.FilterRow.{FilterRow}
use Rattle.drf_rows.specs.declared.rows.LimitRow.{LimitRow}
use Rattle.drf_rows.specs.declared.rows.Rows.{Rows}
use Rattle.drf_explain.specs.Explained.{outcome, explained}
use Rattle.drf_explain.specs.declared.finding.Finding.{Finding}
use Rattle.drf_explain.specs.declared.finding.Finding.TheVariants.{Tried}
use Rattle.drf_explain.specs.declared.finding.Outcome.TheVariants.{Grant, HeldBack, OverLimit, BelowThreshold, NothingLeft, ReservedForOthers}

-- the part of an agent's free resources that a client's role can use
abbrev pub usable : Rows → AgentRow → Client → List Resource
usable rows agent client = part_for client.role (free_of rows agent)

-- what the limits leave of that part
abbrev pub entitled : Rows → AgentRow → Client → List Resource
entitled rows agent client = entitlement rows (free_of rows agent) client

-- how much of a scalar the client's role can use, in thousandths
abbrev pub usable_amount : Rows → AgentRow → Client → Text → ℕ
usable_amount rows agent client label = amount_of (quantities_of (usable rows agent client)) label

-- ---- a grant

-- the outcome is a grant of a bundle exactly if the cycle grants this bundle
abbrev pub GrantIsGranted : Type 0
GrantIsGranted =
    (rows : Rows) (agent : AgentRow) (client : Client) (bundle : List Resource)
    → (outcome rows agent client ≡ Grant bundle) ↔ (grant rows agent client ≡ Some bundle)

-- ---- held back

-- what the client could have is large enough for an offer, filters cover it, and the last of them ends at `until`: a cycle before then
-- grants nothing to the client, and a cycle at that time or later grants all of it
pub record IsHeldUntil (rows : Rows) (agent : AgentRow) (client : Client) (until : ℕ) : Type 0 where
  pub worth : is_allocatable (entitled rows agent client) ≡ true
  pub place : ℕ
  pub row : FilterRow
  pub stands : slice_get rows.filters place ≡ Some row
  pub holds : IsTrue (holds_back rows.clock client agent.name (entitled rows agent client) row)
  pub ends : row.until ≡ until
  pub last : (other : ℕ) (f : FilterRow) → slice_get rows.filters other ≡ Some f
      → IsTrue (holds_back rows.clock client agent.name (entitled rows agent client) f) → f.until ≤ until
  pub before : (at : ℕ) → at < until → grant (at_timestamp rows at) agent client ≡ None
  pub after : (at : ℕ) → until ≤ at → grant (at_timestamp rows at) agent client ≡ Some (entitled rows agent client)

abbrev pub HeldBackIsHeldUntil : Type 0
HeldBackIsHeldUntil =
    (rows : Rows) (agent : AgentRow) (client : Client) (until : ℕ)
    → outcome rows agent client ≡ HeldBack until → IsHeldUntil rows agent client until

-- ---- over a limit

-- the role has a limit that applies to the client and the scalar and leaves too little, and no other such limit leaves less: it is the
-- amount to which the cycle cuts the scalar
pub record IsCutBelow (rows : Rows) (client : Client) (limited : Path) (label : Text) (least : ℕ) : Type 0 where
  pub place : ℕ
  pub row : LimitRow
  pub stands : slice_get rows.limits place ≡ Some row
  pub role : row.role ≡ limited
  pub binding : IsTrue (binds client.role label row)
  pub little : room_under (consumption rows) label row < least
  pub cut : headroom_at rows client.role label ≡ Some (room_under (consumption rows) label row)
  pub tightest : (other : ℕ) (l : LimitRow) → slice_get rows.limits other ≡ Some l
      → IsTrue (binds client.role label l) → room_under (consumption rows) label row ≤ room_under (consumption rows) label l

-- what the client's role can use is large enough for an offer, and what the limits leave of it is not; the limit is one on `cpus` if
-- enough of them can be used, and otherwise one on `mem`
pub record IsOverLimit (rows : Rows) (agent : AgentRow) (client : Client) (limited : Path) : Type 0 where
  pub worth : is_allocatable (usable rows agent client) ≡ true
  pub little : is_allocatable (entitled rows agent client) ≡ false
  pub cpus : 10 ≤ usable_amount rows agent client (codes "cpus") → IsCutBelow rows client limited (codes "cpus") 10
  pub mem : usable_amount rows agent client (codes "cpus") < 10 → IsCutBelow rows client limited (codes "mem") 32000

abbrev pub OverLimitIsOverLimit : Type 0
OverLimitIsOverLimit =
    (rows : Rows) (agent : AgentRow) (client : Client) (limited : Path)
    → outcome rows agent client ≡ OverLimit limited → IsOverLimit rows agent client limited

-- ---- too little

-- the client's role can use some of the free resources, but these are too small for an offer
pub record IsTooLittle (rows : Rows) (agent : AgentRow) (client : Client) : Type 0 where
  pub some : is_empty (usable rows agent client) ≡ false
  pub little : is_allocatable (usable rows agent client) ≡ false

abbrev pub BelowThresholdIsTooLittle : Type 0
BelowThresholdIsTooLittle =
    (rows : Rows) (agent : AgentRow) (client : Client)
    → outcome rows agent client ≡ BelowThreshold → IsTooLittle rows agent client

-- ---- reserved

-- the resource is reserved for a role that is neither the client's nor above it
pub record IsForOthers (client : Client) (r : Resource) : Type 0 where
  pub reserved : is_default r.role ≡ false
  pub apart : is_within r.role client.role ≡ false

-- something is free, and all of it is reserved for others
pub record IsReserved (rows : Rows) (agent : AgentRow) (client : Client) : Type 0 where
  pub some : is_empty (free_of rows agent) ≡ false
  pub others : AllByRecursion (IsForOthers client) (free_of rows agent)

abbrev pub ReservedIsForOthers : Type 0
ReservedIsForOthers =
    (rows : Rows) (agent : AgentRow) (client : Client)
    → outcome rows agent client ≡ ReservedForOthers → IsReserved rows agent client

-- ---- nothing

-- the outcome is `NothingLeft` exactly if nothing is free
abbrev pub NothingLeftIsNothing : Type 0
NothingLeftIsNothing =
    (rows : Rows) (agent : AgentRow) (client : Client)
    → (outcome rows agent client ≡ NothingLeft) ↔ (is_empty (free_of rows agent) ≡ true)

-- the finding is not `NothingLeft`
abbrev pub IsOtherwise : Finding → Type 0
IsOtherwise finding = (agent : Text) (client : Path) → finding ≢ Tried agent client NothingLeft

-- `NothingLeft` does not occur in an explanation, because the turn ends before
abbrev pub NothingLeftIsNotExplained : Type 0
NothingLeftIsNotExplained = (rows : Rows) (at : ℕ) → AllByRecursion IsOtherwise (explained rows at)
