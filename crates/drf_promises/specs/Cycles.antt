-- The promises about each cycle and each of its turns.
use Rattle.std.specs.Prelude.{◌≡◌, ℕ, ◌≤◌, max, true, false, List, [], ◌∷◌, ◌++◌, filter, flat_map, Some, None}
use Rattle.std.specs.List.{AllByRecursion}
use Rattle.drf_bundle.specs.Bundle.{IsBundle, is_unreserved}
use Rattle.drf_rows.specs.Client.{Client, path_of}
use Rattle.drf_rows.specs.Consistent.{IsConsistent}
use Rattle.drf_rows.specs.Cycle.{free_of, is_allocatable, grant, all_tried, turn_order, turn, at_timestamp, cycle}
use Rattle.drf_rows.specs.Filters.{in_force}
use Rattle.drf_rows.specs.Held.{active_clients, standing_of}
use Rattle.drf_rows.specs.Holdings.{holding_of_offer}
use Rattle.drf_rows.specs.Share.{stands_before}
use Rattle.drf_rows.specs.Step.{new_offers}
use Rattle.drf_rows.specs.declared.limits.TheConstants.{LATEST_TIMESTAMP}
use Rattle.drf_rows.specs.declared.rows.AgentRow.{AgentRow}
use Rattle.drf_rows.specs.declared.rows.OfferRow.{OfferRow}
use Rattle.drf_rows.specs.declared.rows.Rows.{Rows}
use Rattle.drf_explain.specs.Explained.{explained}
use Rattle.drf_explain.specs.ExplainedLaws.{grants_in}
use Rattle.drf_promises.specs.Runs.{Has}

-- the active agents
abbrev pub active_agents : Rows → List AgentRow
active_agents rows = filter (λ a. a.active) rows.agents

-- in this state the client would be granted nothing on the agent
abbrev pub GetsNothing : Rows → AgentRow → Client → Type 0
GetsNothing rows agent client = grant rows agent client ≡ None

-- no active client would be granted anything on any active agent
abbrev pub NothingIsLeft : Rows → Type 0
NothingIsLeft rows = AllByRecursion (λ agent. AllByRecursion (GetsNothing rows agent) (active_clients rows)) (active_agents rows)

-- this is so after every cycle
abbrev pub CyclesLeaveNothing : Type 0
CyclesLeaveNothing = (rows : Rows) (at : ℕ) → IsConsistent rows → at ≤ LATEST_TIMESTAMP → NothingIsLeft (cycle rows at)

-- a second cycle changes nothing if no time passes
abbrev pub SecondCyclesAreIdle : Type 0
SecondCyclesAreIdle =
    (rows : Rows) (at later : ℕ)
    → IsConsistent rows
    → at ≤ LATEST_TIMESTAMP
    → later ≤ max rows.clock at
    → cycle (cycle rows at) later ≡ cycle rows at

-- an explanation directly after a cycle reports no grant
abbrev pub NothingIsExplained : Type 0
NothingIsExplained =
    (rows : Rows) (at later : ℕ)
    → IsConsistent rows
    → at ≤ LATEST_TIMESTAMP
    → later ≤ max rows.clock at
    → flat_map grants_in (explained (cycle rows at) later) ≡ []

-- no filter is in force; there can be expired ones
abbrev pub IsUnfiltered : Rows → Type 0
IsUnfiltered rows = in_force rows.clock rows.filters ≡ []

-- the cluster is open: nothing is reserved, there are no limits, and no filter is in force
pub record IsOpen (rows : Rows) : Type 0 where
  pub unreserved : AllByRecursion (λ a. is_unreserved a.total ≡ true) rows.agents
  pub limits : rows.limits ≡ []
  pub filters : IsUnfiltered rows

-- if the cluster is open at the time of the cycle and a client is active, what the cycle leaves free on an agent is too
-- little for an offer
abbrev pub AllIsHandedOut : Type 0
AllIsHandedOut =
    (rows : Rows) (at : ℕ) (client : Client)
    → IsConsistent rows
    → at ≤ LATEST_TIMESTAMP
    → IsOpen (at_timestamp rows at)
    → Has (active_clients rows) client
    → AllByRecursion (λ agent. is_allocatable (free_of (cycle rows at) agent) ≡ false) (active_agents rows)

-- ---- who is served first

-- when a client is tried in a turn, the clients tried before it would be granted nothing more
abbrev pub NobodyIsPassed : Type 0
NobodyIsPassed =
    (rows : Rows) (agent : AgentRow) (earlier later : List Client) (client : Client)
    → IsConsistent rows
    → IsBundle agent.total
    → turn_order rows ≡ earlier ++ client ∷ later
    → AllByRecursion (GetsNothing (all_tried rows agent earlier) agent) earlier

-- an offer of a turn goes to the first client: it is what the client is granted when it is tried, and every client
-- before it in the order of the turn would then be granted nothing
pub record GoesToTheFirst (rows : Rows) (agent : AgentRow) (offer : OfferRow) : Type 0 where
  pub earlier : List Client
  pub later : List Client
  pub order : turn_order rows ≡ earlier ++ (holding_of_offer offer).client ∷ later
  pub granted : grant (all_tried rows agent earlier) agent (holding_of_offer offer).client ≡ Some offer.bundle
  pub nobody_ahead : AllByRecursion
      (λ c. stands_before (standing_of rows) (path_of c) (path_of (holding_of_offer offer).client) ≡ true → GetsNothing (all_tried rows agent earlier) agent c)
      (active_clients rows)

-- so each offer of a turn goes to the first client
abbrev pub OffersGoToTheFirst : Type 0
OffersGoToTheFirst =
    (rows : Rows) (agent : AgentRow)
    → IsConsistent rows
    → IsBundle agent.total
    → AllByRecursion (GoesToTheFirst rows agent) (new_offers rows (turn rows agent))
