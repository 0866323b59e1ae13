-- Reserving and unreserving: they change this part of one agent and nothing else, and undo each other.
use Rattle.std.specs.Prelude.{◌≡◌, ℕ, ◌+◌, ◌≤◌, ◌<◌, Bool, true, false, List, map, slice_get, Some, None, IsTrue, if◌then◌else◌}
use Rattle.drf_role.specs.Text.{Text, same_text}
use Rattle.drf_role.specs.Path.{Path}
use Rattle.drf_bundle.specs.Quantities.{amount_of}
use Rattle.drf_bundle.specs.Bundle.{quantities_of, is_default, is_unreserved, relabel, join, rest}
use Rattle.drf_bundle.specs.declared.resource.Resource.{Resource}
use Rattle.drf_rows.specs.LimitNumbers.{LimitNumbers}
use Rattle.drf_rows.specs.Held.{cluster_total}
use Rattle.drf_rows.specs.Cycle.{free_of}
use Rattle.drf_rows.specs.Consistent.{IsConsistent}
use Rattle.drf_rows.specs.Members.{has_agent}
use Rattle.drf_rows.specs.Offers.{is_empty}
use Rattle.drf_rows.specs.Quota.{consumption, binds, admits}
use Rattle.drf_row_laws.specs.ReservationLaws.{IsAsked}
use Rattle.drf_rows.specs.Step.{refusal_of, effect, rows_after, is_full}
use Rattle.drf_rows.specs.Totals.{agent_at, is_not_free}
use Rattle.drf_rows.specs.declared.event.Event.{Event}
use Rattle.drf_rows.specs.declared.event.Event.TheVariants.{Reserve, Unreserve, SetLimit}
use Rattle.drf_rows.specs.declared.reply.Refusal.TheVariants.{OverLimit}
use Rattle.drf_rows.specs.declared.rows.AgentRow.{AgentRow}
use Rattle.drf_rows.specs.declared.rows.LimitRow.{LimitRow}
use Rattle.drf_rows.specs.declared.rows.Rows.{Rows}

-- ---- the statements

-- in the total and the free resources of one agent a part is replaced by another one, and nothing else changes
pub record IsMoved (rows after : Rows) (agent : Text) (row : AgentRow) (old new : List Resource) : Type 0 where
  pub only : after ≡ record rows { agents = after.agents }
  pub names : map (λ a. a.name) after.agents ≡ map (λ a. a.name) rows.agents
  pub activity : map (λ a. a.active) after.agents ≡ map (λ a. a.active) rows.agents
  pub others : (other : Text) → same_text agent other ≡ false → agent_at after other ≡ agent_at rows other
  pub cluster : cluster_total after.agents ≡ cluster_total rows.agents
  pub total : List Resource
  pub changed : agent_at after agent ≡ Some (record row { total = total })
  pub joined : join (rest row.total old) new ≡ Some total
  pub free : join (rest (free_of rows row) old) new ≡ Some (free_of after (record row { total = total }))

abbrev pub MovedOnly : Type 0
MovedOnly =
    (limits : LimitNumbers) (rows : Rows) (agent : Text) (role : Path) (resources : List Resource) (row : AgentRow)
    → IsConsistent rows
    → IsAsked role resources
    → agent_at rows agent ≡ Some row
    → (refusal_of limits rows (Reserve agent role resources) ≡ None
    → IsMoved rows (effect rows (Reserve agent role resources)) agent row resources (relabel role resources))
    × (refusal_of limits rows (Unreserve agent role resources) ≡ None
    → IsMoved rows (effect rows (Unreserve agent role resources)) agent row (relabel role resources) resources)

-- a reservation can be undone at once; the state is then the same, except that two events were accepted
abbrev pub ReservedCanBeGivenBack : Type 0
ReservedCanBeGivenBack =
    (limits : LimitNumbers) (rows : Rows) (agent : Text) (role : Path) (resources : List Resource)
    → IsConsistent rows
    → IsAsked role resources
    → refusal_of limits rows (Reserve agent role resources) ≡ None
    → let reserved : Rows = rows_after limits rows (Reserve agent role resources) in
    is_full limits reserved ≡ false
    → (refusal_of limits reserved (Unreserve agent role resources) ≡ None)
    × (rows_after limits reserved (Unreserve agent role resources) ≡ record rows { events = rows.events + 1 + 1 })

-- an unreservation can be undone at once if the limits admit it
abbrev pub GivenBackCanBeReserved : Type 0
GivenBackCanBeReserved =
    (limits : LimitNumbers) (rows : Rows) (agent : Text) (role : Path) (resources : List Resource)
    → IsConsistent rows
    → IsAsked role resources
    → refusal_of limits rows (Unreserve agent role resources) ≡ None
    → let given : Rows = rows_after limits rows (Unreserve agent role resources) in
    is_full limits given ≡ false
    → (refusal_of limits given (Reserve agent role resources)
    ≡ (if admits given role (quantities_of resources) then None else Some OverLimit))
    × (IsTrue (admits given role (quantities_of resources))
    → rows_after limits given (Reserve agent role resources) ≡ record rows { events = rows.events + 1 + 1 })

-- the limits admit it if no limit that restricts the role was exceeded
abbrev pub WithinLimitsItIsAdmitted : Type 0
WithinLimitsItIsAdmitted =
    (limits : LimitNumbers) (rows : Rows) (agent : Text) (role : Path) (resources : List Resource)
    → IsConsistent rows
    → IsAsked role resources
    → refusal_of limits rows (Unreserve agent role resources) ≡ None
    → ((label : Text) (place : ℕ) (l : LimitRow) → slice_get rows.limits place ≡ Some l → IsTrue (binds role label l)
    → consumption rows l.role label ≤ amount_of l.limit label)
    → IsTrue (admits (rows_after limits rows (Unreserve agent role resources)) role (quantities_of resources))

-- with the refused reservation, the role or a role above it would exceed its limit
pub record WouldPass (rows after : Rows) (role : Path) : Type 0 where
  pub place : ℕ
  pub l : LimitRow
  pub at : slice_get rows.limits place ≡ Some l
  pub label : Text
  pub binding : IsTrue (binds role label l)
  pub passed : amount_of l.limit label < consumption after l.role label

abbrev pub RefusedWouldPass : Type 0
RefusedWouldPass =
    (limits : LimitNumbers) (rows : Rows) (agent : Text) (role : Path) (resources : List Resource)
    → IsConsistent rows
    → IsAsked role resources
    → refusal_of limits rows (Reserve agent role resources) ≡ Some OverLimit
    → WouldPass rows (effect rows (Reserve agent role resources)) role

-- only reserving and setting a limit depend on limits
abbrev pub reads_limits : Event → Bool
reads_limits (Reserve agent role resources) = true
reads_limits (SetLimit role limit) = true
reads_limits other = false

abbrev pub LimitsRefuseNothingElse : Type 0
LimitsRefuseNothingElse =
    (limits : LimitNumbers) (rows : Rows) (others : List LimitRow) (event : Event)
    → reads_limits event ≡ false
    → refusal_of limits (record rows { limits = others }) event ≡ refusal_of limits rows event

-- ---- reserving and unreserving in turn

-- what both events require besides free resources
pub record IsMovable (rows : Rows) (agent : Text) (role : Path) (resources : List Resource) : Type 0 where
  pub known : has_agent rows agent ≡ true
  pub other : is_default role ≡ false
  pub some : is_empty resources ≡ false
  pub unreserved : is_unreserved resources ≡ true

-- the event satisfies everything that is required of a reservation, except that the limits do not admit it
pub record IsOverLimit (rows : Rows) (agent : Text) (role : Path) (resources : List Resource) : Type 0 where
  pub movable : IsMovable rows agent role resources
  pub free : is_not_free rows agent resources ≡ false
  pub beyond : admits rows role (quantities_of resources) ≡ false
