-- Quota limits: a grant that is cut to the headroom takes no role over its limit; a limit that is consumed leaves no
-- headroom; no role consumes more than the cluster's total; and what is reserved for a role and then unreserved is
-- consumed as before.
use Rattle.std.specs.Prelude.{◌≡◌, ℕ, ◌≤◌, max, Bool, List, slice_get, Some, IsTrue}
use Rattle.drf_role.specs.Text.{Text}
use Rattle.drf_role.specs.Path.{Path}
use Rattle.drf_bundle.specs.Quantities.{amount_of, is_named}
use Rattle.drf_bundle.specs.Bundle.{IsBundle}
use Rattle.drf_bundle.specs.declared.resource.Resource.{Resource}
use Rattle.drf_rows.specs.Client.{Client}
use Rattle.drf_rows.specs.Cycle.{new_offer, with_offer, cycle}
use Rattle.drf_rows.specs.Held.{cluster_total}
use Rattle.drf_rows.specs.Consistent.{IsConsistent}
use Rattle.drf_rows.specs.Quota.{consumption_where, consumption, binds, headroom_at, entitlement}
use Rattle.drf_rows.specs.declared.rows.AgentRow.{AgentRow}
use Rattle.drf_rows.specs.declared.rows.LimitRow.{LimitRow}
use Rattle.drf_rows.specs.declared.rows.Rows.{Rows}

-- ---- the statements

-- a limit that is at most the consumption of its role leaves no headroom
abbrev pub SpentLimitLeavesNothing : Type 0
SpentLimitLeavesNothing =
    (rows : Rows) (role : Path) (label : Text) (place : ℕ) (l : LimitRow)
    → slice_get rows.limits place ≡ Some l
    → IsTrue (binds role label l)
    → amount_of l.limit label ≤ consumption rows l.role label
    → headroom_at rows role label ≡ Some 0

-- an offer of the entitlement takes neither the client's role nor a role above it over a limit
abbrev pub GrantKeepsLimits : Type 0
GrantKeepsLimits =
    (rows : Rows) (agent : AgentRow) (free : List Resource) (client : Client) (label : Text) (place : ℕ) (l : LimitRow)
    → IsBundle free
    → slice_get rows.limits place ≡ Some l
    → IsTrue (binds client.role label l)
    → consumption (with_offer rows (new_offer rows agent client (entitlement rows free client))) l.role label
    ≤ max (amount_of l.limit label) (consumption rows l.role label)

-- no cycle raises the consumption of a role above its limit: each grant is cut in turn
abbrev pub CycleKeepsLimits : Type 0
CycleKeepsLimits =
    (rows : Rows) (at : ℕ) (label : Text) (place : ℕ) (l : LimitRow)
    → IsConsistent rows
    → slice_get rows.limits place ≡ Some l
    → IsTrue (is_named l.limit label)
    → consumption (cycle rows at) l.role label ≤ max (amount_of l.limit label) (consumption rows l.role label)

-- roles do not consume more than the cluster's total
abbrev pub ConsumptionIsPartOfTotal : Type 0
ConsumptionIsPartOfTotal =
    (test : Path → Bool) (rows : Rows) (label : Text)
    → IsConsistent rows
    → consumption_where test rows label ≤ amount_of (cluster_total rows.agents) label

-- ---- a cycle

-- limits stay, and the consumption of a role is at most its limit, or what it was
pub record KeepsLimit (start after : Rows) (label : Text) (l : LimitRow) : Type 0 where
  pub limits : after.limits ≡ start.limits
  pub consumed : consumption after l.role label ≤ max (amount_of l.limit label) (consumption start l.role label)
