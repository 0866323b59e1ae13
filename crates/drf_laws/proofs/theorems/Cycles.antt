-- A cycle keeps a state consistent.
use Rattle.std.proofs.Common.{◌≡◌, ℕ, suc, ◌≤◌, true, List, [], ◌∷◌, Some, refl, sym, ap, subst, ◌∙◌}
use Rattle.std.specs.Prelude.{filter, max, slice_get}
use Rattle.std.specs.List.{AllByRecursion}
use Rattle.drf_bundle.specs.Bundle.{IsBundle}
use Rattle.drf_bundle.specs.declared.resource.Resource.{Resource}
use Rattle.drf_rows.specs.Client.{Client}
use Rattle.drf_rows.specs.Consistent.{IsAgent, IsConsistent}
use Rattle.drf_rows.specs.Cycle.{is_grantable, new_offer, with_offer, tried, turn_order, turn, turns, cycle, at_timestamp}
use Rattle.drf_rows.specs.Held.{active_clients, is_registered}
use Rattle.drf_row_laws.proofs.CycleLaws.{active_clients-with_offer}
use Rattle.drf_row_laws.proofs.FrameLaws.{its_part, tried_keeps, turn_keeps, turns_keep}
use Rattle.drf_row_laws.proofs.ConsistentLaws.{IsConsistent-with_offer, is_registered-counted}
use Rattle.drf_bundle.proofs.ListLaws.{each_at, each_filter, each_from}
use Rattle.drf_rows.specs.declared.limits.TheConstants.{LATEST_TIMESTAMP}
use Rattle.drf_rows.specs.declared.rows.AgentRow.{AgentRow}
use Rattle.drf_rows.specs.declared.rows.Rows.{Rows}
use Rattle.drf_laws.proofs.theorems.Turns.{turn_order-registered, entitled_part}
use Rattle.drf_laws.proofs.theorems.Kept.{consistent-clock}

-- the element occurs at some place
abbrev pub IsAt : {X : Type 0} → List X → X → Type 0
IsAt xs x = (place : ℕ) × (slice_get xs place ≡ Some x)

pub each_is_at : {X : Type 0} (xs : List X) → AllByRecursion (IsAt xs) xs
each_is_at [] = tt
each_is_at (x ∷ xs) = ((0, refl), each_from (IsAt xs) (IsAt (x ∷ xs)) xs (λ y at. (suc at.0, at.1)) (each_is_at xs))

-- a state within a cycle: it is consistent, with the agents and clients of the beginning
pub record IsMidway (start rows : Rows) : Type 0 where
  pub consistent : IsConsistent rows
  pub agents : rows.agents ≡ start.agents
  pub clients : (client : Client) → is_registered rows.frameworks client ≡ is_registered start.frameworks client
  pub active : active_clients rows ≡ active_clients start

pub itself_midway : (rows : Rows) → IsConsistent rows → IsMidway rows rows
itself_midway rows consistent = record { consistent = consistent; agents = refl; clients = λ client. refl; active = refl }

module _ (start : Rows) where
  pub total_of : (rows : Rows) (agent : AgentRow) → IsAt start.agents agent → IsMidway start rows → IsBundle agent.total
  total_of rows agent at mid =
      (each_at IsAgent start.agents at.0 agent (subst (AllByRecursion IsAgent) mid.agents mid.consistent.agents.each) at.1).total

  abbrev IsKnown : Client → Type 0
  IsKnown client = is_registered start.frameworks client ≡ true

  -- all clients that are tried are registered
  known_served : (rows : Rows) → IsMidway start rows → AllByRecursion IsKnown (turn_order rows)
  known_served rows mid =
      each_from (λ c. is_registered rows.frameworks c ≡ true) IsKnown (turn_order rows) (λ c here. sym (mid.clients c) ∙ here) (turn_order-registered rows)

  midway-offer : (rows : Rows) (agent : AgentRow) (client : Client) → IsAt start.agents agent → IsKnown client
      → is_grantable rows agent client (its_part rows agent client) ≡ true → IsMidway start rows
      → IsMidway start (with_offer rows (new_offer rows agent client (its_part rows agent client)))
  unfolding with_offer
  midway-offer rows agent client at known is mid =
      let bundle : List Resource = its_part rows agent client in
      let there : slice_get rows.agents at.0 ≡ Some agent = ap (λ (as' : List AgentRow). slice_get as' at.0) mid.agents ∙ at.1 in
      let part = entitled_part rows agent client (total_of rows agent at mid) in
      record {
        consistent = IsConsistent-with_offer rows agent at.0 client bundle mid.consistent there (mid.clients client ∙ known) part.bundle_is part.small;
        agents = mid.agents;
        clients = λ other. is_registered-counted client other rows.frameworks ∙ mid.clients other;
        active = active_clients-with_offer rows (new_offer rows agent client bundle) ∙ mid.active;
      }

  pub midway-tried : (rows : Rows) (agent : AgentRow) (client : Client) → IsAt start.agents agent → IsKnown client → IsMidway start rows
      → IsMidway start (tried rows agent client)
  midway-tried = tried_keeps (IsMidway start) (IsAt start.agents) IsKnown known_served midway-offer

  pub midway-turn : (rows : Rows) (agent : AgentRow) → IsAt start.agents agent → IsMidway start rows → IsMidway start (turn rows agent)
  midway-turn = turn_keeps (IsMidway start) (IsAt start.agents) IsKnown known_served midway-offer

  pub midway-turns : (rows : Rows) (agents : List AgentRow) → AllByRecursion (IsAt start.agents) agents → IsMidway start rows
      → IsMidway start (turns rows agents)
  midway-turns = turns_keep (IsMidway start) (IsAt start.agents) IsKnown known_served midway-offer

pub IsConsistent-cycle : (rows : Rows) (at : ℕ) → IsConsistent rows → max rows.clock at ≤ LATEST_TIMESTAMP → IsConsistent (cycle rows at)
unfolding cycle
IsConsistent-cycle rows at consistent early =
    let start : Rows = at_timestamp rows at in
    (midway-turns start start (filter (λ a. a.active) rows.agents) (each_filter (IsAt rows.agents) (λ a. a.active) rows.agents (each_is_at rows.agents))
    (itself_midway start (consistent-clock rows (max rows.clock at) consistent early))).consistent
