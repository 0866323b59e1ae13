-- The promise to a client that waits for an agent which others decline.
use Rattle.std.specs.Prelude.{◌≡◌, ℕ, ◌+◌, ◌<◌, ◌≤◌, min, true, List, [], ◌∷◌, ◌++◌, length}
use Rattle.std.specs.List.{AllByRecursion, list_any}
use Rattle.drf_rows.specs.Client.{Client}
use Rattle.drf_rows.specs.Consistent.{IsConsistent}
use Rattle.drf_rows.specs.Cycle.{at_timestamp, free_of, is_allocatable}
use Rattle.drf_rows.specs.Held.{active_clients}
use Rattle.drf_rows.specs.Holdings.{holding_of_offer}
use Rattle.drf_rows.specs.Step.{effect, new_offers}
use Rattle.drf_row_laws.specs.LifeLaws.{is_same_client}
use Rattle.drf_rows.specs.declared.event.Event.TheVariants.{Cycle, Decline}
use Rattle.drf_rows.specs.declared.limits.TheConstants.{LATEST_TIMESTAMP, LONGEST_FILTER}
use Rattle.drf_rows.specs.declared.rows.AgentRow.{AgentRow}
use Rattle.drf_rows.specs.declared.rows.OfferRow.{OfferRow}
use Rattle.drf_rows.specs.declared.rows.Rows.{Rows}
use Rattle.drf_promises.specs.Cycles.{active_agents, IsOpen}

-- the offers that a cycle makes
abbrev pub made_at : Rows → ℕ → List OfferRow
made_at rows at = new_offers rows (effect rows (Cycle at))

-- the state after each of some offers is declined
abbrev pub all_declined : ℕ → ℕ → Rows → List OfferRow → Rows
all_declined at refuse_ms rows [] = rows
all_declined at refuse_ms rows (offer ∷ offers) =
    all_declined at refuse_ms
    (effect rows (Decline (record { framework = offer.framework; offer = offer.number; at = at; refuse_ms = refuse_ms }))) offers

-- the state after a cycle whose offers are all declined at once
abbrev pub round : ℕ → Rows → ℕ → Rows
round refuse_ms rows at = all_declined at refuse_ms (effect rows (Cycle at)) (made_at rows at)

-- the offers that a list of such cycles makes
abbrev pub made_in : ℕ → Rows → List ℕ → List OfferRow
made_in refuse_ms rows [] = []
made_in refuse_ms rows (at ∷ timestamps) = made_at rows at ++ made_in refuse_ms (round refuse_ms rows at) timestamps

-- one of the offers is made to the client
abbrev pub IsOffered : List OfferRow → Client → Type 0
IsOffered offers client = list_any (λ o. is_same_client client (holding_of_offer o).client) offers ≡ true

-- One agent is active, its free resources are large enough to be offered, and nothing is reserved, limited or filtered
-- as the first cycle begins. If every client declines what it is offered, with a filter that lasts for all the cycles,
-- every active client is offered something within as many cycles as there are active clients, whatever the tree and the
-- shares.
abbrev pub EverybodyIsOffered : Type 0
EverybodyIsOffered =
    (rows : Rows) (agent : AgentRow) (timestamps : List ℕ) (first last refuse_ms : ℕ)
    → IsConsistent rows
    → IsOpen (at_timestamp rows first)
    → active_agents rows ≡ agent ∷ []
    → is_allocatable (free_of rows agent) ≡ true
    → rows.clock ≤ last
    → last ≤ LATEST_TIMESTAMP
    → AllByRecursion (λ at. (first ≤ at) × (at ≤ last)) timestamps
    → last < first + min refuse_ms LONGEST_FILTER
    → length (active_clients rows) ≤ length timestamps
    → AllByRecursion (IsOffered (made_in refuse_ms rows timestamps)) (active_clients rows)
