-- After a cycle no client would be granted anything, so a second one makes no offer; and each offer goes to the first
-- client that would be granted something.
use Rattle.std.specs.Prelude.{◌≡◌, ℕ, ◌≤◌, max, List, [], ◌∷◌, length, map, filter, drop, Option}
use Rattle.std.specs.List.{AllByRecursion}
use Rattle.std.specs.Option.{option_map_or}
use Rattle.std.proofs.Common.{refl, sym, ap, subst, ◌∙◌, arith, append-nil}
use Rattle.std.proofs.Math.Seq.{drop-append_seam}
use Rattle.std.proofs.lemmas.List.Elements.{All-from_recursion, recursion_from_All}
use Rattle.std.proofs.lemmas.List.Sorted.{All-permutation, IsPermutation-sym}
use Rattle.drf_bundle.specs.Bundle.{IsBundle}
use Rattle.drf_bundle.specs.declared.resource.Resource.{Resource}
use Rattle.drf_rows.specs.Client.{Client}
use Rattle.drf_rows.specs.Consistent.{IsFilter, IsConsistent}
use Rattle.drf_rows.specs.Held.{active_clients}
use Rattle.drf_rows.specs.Held as rows_word
use Rattle.drf_rows.specs.Cycle.{new_offer, with_offer, all_tried, turn_order, turn, turns, at_timestamp, cycle}
use Rattle.drf_rows.specs.Step.{new_offers}
use Rattle.drf_row_laws.proofs.ConsistentLaws.{bundles-consistent}
use Rattle.drf_bundle.proofs.ListLaws.{each_from, each_filter}
use Rattle.drf_row_laws.proofs.LiveLaws.{kept-turns}
use Rattle.drf_laws.proofs.OfferedLaws.{each_served}
use Rattle.drf_rows.specs.declared.limits.TheConstants.{LATEST_TIMESTAMP}
use Rattle.drf_rows.specs.declared.rows.AgentRow.{AgentRow}
use Rattle.drf_rows.specs.declared.rows.Rows.{Rows}
use Rattle.drf_laws.proofs.theorems.Kept.{consistent-clock}
use Rattle.drf_sorter.proofs.TurnLemmas.{each_has_its_turn}
use Rattle.drf_explain.specs.ExplainedLaws.{offered}
use Rattle.drf_explain.proofs.ExplainedLaws.{grants_are_offers}
use Rattle.drf_promises.specs.Cycles.{active_agents, GetsNothing, NothingIsLeft, CyclesLeaveNothing, SecondCyclesAreIdle, NothingIsExplained, NobodyIsPassed}
use Rattle.drf_laws.proofs.theorems.Cycles.{IsMidway, total_of, midway-turn, midway-turns, each_is_at}
use Rattle.drf_promises.specs.Runs.{Has}
use Rattle.drf_promises.proofs.theorems.Less.{LeavesLess, less_than_itself, less_and_less, nothing_stays}
use Rattle.drf_promises.proofs.theorems.Left.{all_tried_less, all_get_nothing}

-- ---- turn by turn

filters_of : (rows : Rows) → IsConsistent rows → AllByRecursion (λ f. IsBundle f.bundle) rows.filters
filters_of rows consistent =
    each_from (IsFilter rows.agents rows.frameworks) (λ f. IsBundle f.bundle) rows.filters (λ f is. is.bundle) consistent.filters

-- every active client is tried in a turn
pub everybody : (P : Client → Type 0) (rows : Rows) → IsConsistent rows → AllByRecursion P (turn_order rows) → AllByRecursion P (active_clients rows)
everybody P rows consistent all =
    recursion_from_All P (active_clients rows)
    (All-permutation P (turn_order rows) (active_clients rows)
    (IsPermutation-sym (active_clients rows) (turn_order rows) (each_has_its_turn rows consistent))
    (All-from_recursion P (turn_order rows) all))

pub turn_leaves_nothing : (rows : Rows) (agent : AgentRow) → IsConsistent rows → IsBundle agent.total
    → AllByRecursion (GetsNothing (turn rows agent) agent) (active_clients rows)
unfolding turn
turn_leaves_nothing rows agent consistent total =
    everybody (GetsNothing (turn rows agent) agent) rows consistent
    (all_get_nothing agent total rows (turn_order rows) (bundles-consistent rows consistent) (filters_of rows consistent))

module _ (start : Rows) where
  -- later turns leave less on every agent
  turns_less : (rows : Rows) (agents : List AgentRow) (other : AgentRow) → AllByRecursion (Has start.agents) agents → IsBundle other.total
      → IsMidway start rows → LeavesLess rows (turns rows agents) other
  unfolding turn
  turns_less rows [] other at right mid = less_than_itself rows other
  turns_less rows (agent ∷ agents) other at right mid =
      less_and_less rows (turn rows agent) (turns (turn rows agent) agents) other
      (all_tried_less agent (total_of start rows agent at.0 mid) rows (turn_order rows) other right (bundles-consistent rows mid.consistent))
      (turns_less (turn rows agent) agents other at.1 right (midway-turn start rows agent at.0 mid))

  turns_leave_nothing : (rows : Rows) (agents : List AgentRow) → AllByRecursion (Has start.agents) agents → IsMidway start rows
      → AllByRecursion (λ agent. AllByRecursion (GetsNothing (turns rows agents) agent) (active_clients start)) agents
  turns_leave_nothing rows [] at mid = tt
  turns_leave_nothing rows (agent ∷ agents) at mid =
      let next : Rows = turn rows agent in
      let total = total_of start rows agent at.0 mid in
      let gone_on : IsMidway start next = midway-turn start rows agent at.0 mid in (
        each_from (GetsNothing next agent) (GetsNothing (turns next agents) agent) (active_clients start)
            (λ c. nothing_stays next (turns next agents) agent c (turns_less next agents agent at.1 total gone_on) total (filters_of next gone_on.consistent))
            (subst (AllByRecursion (GetsNothing next agent)) mid.active (turn_leaves_nothing rows agent mid.consistent total)),
        turns_leave_nothing next agents at.1 gone_on,
      )

-- ---- the cycle

module _ (rows : Rows) (at : ℕ) (consistent : IsConsistent rows) (early : at ≤ LATEST_TIMESTAMP) where
  abbrev start : Rows
  start = at_timestamp rows at

  pub begin : IsMidway start start
  begin = record {
    consistent = consistent-clock rows (max rows.clock at) consistent (omega (arith, consistent.early, early));
    agents = refl;
    clients = λ client. refl;
    active = refl;
  }

  pub all_at : AllByRecursion (Has rows.agents) (active_agents rows)
  all_at = each_filter (Has rows.agents) (λ a. a.active) rows.agents (each_is_at rows.agents)

  pub end : IsMidway start (cycle rows at)
  unfolding cycle
  end = midway-turns start start (active_agents rows) all_at begin

  nothing_is_left : NothingIsLeft (cycle rows at)
  unfolding cycle
  nothing_is_left =
      let after : Rows = cycle rows at in
      subst (λ (p : List AgentRow × List Client). AllByRecursion (λ agent. AllByRecursion (GetsNothing after agent) p.1) (filter (λ a. a.active) p.0))
      (λ i. (sym end.agents i, sym end.active i)) (turns_leave_nothing start start (active_agents rows) all_at begin)

  clock-cycle : (cycle rows at).clock ≡ max rows.clock at
  unfolding cycle
  clock-cycle = (kept-turns start (active_agents rows)).1

pub cycles_leave_nothing : CyclesLeaveNothing
cycles_leave_nothing = nothing_is_left

-- ---- a second cycle

-- if no client would be granted anything, nothing is offered
none_tried : (rows : Rows) (agent : AgentRow) (clients : List Client) → AllByRecursion (GetsNothing rows agent) clients → all_tried rows agent clients ≡ rows
none_tried rows agent [] none = refl
none_tried rows agent (client ∷ clients) none =
    ap (λ (g : Option (List Resource)). all_tried (option_map_or (λ bundle. with_offer rows (new_offer rows agent client bundle)) g rows) agent clients) none.0
    ∙ none_tried rows agent clients none.1

idle_turns : (rows : Rows) (agents : List AgentRow) → AllByRecursion (λ agent. AllByRecursion (GetsNothing rows agent) (active_clients rows)) agents
    → turns rows agents ≡ rows
unfolding turn
idle_turns rows [] none = refl
idle_turns rows (agent ∷ agents) none =
    ap (λ (r : Rows). turns r agents)
    (none_tried rows agent (turn_order rows) (each_served (GetsNothing rows agent) (rows_word.standing_of rows) _ (active_clients rows) none.0))
    ∙ idle_turns rows agents none.1

pub second_cycles_are_idle : SecondCyclesAreIdle
unfolding cycle
second_cycles_are_idle rows at later consistent early before =
    let after : Rows = cycle rows at in
    let stays : max after.clock later ≡ after.clock = omega (arith, clock-cycle rows at consistent early, before) in
    let still : at_timestamp after later ≡ after = λ i. record after { clock = stays i } in
    ap (λ (r : Rows). turns r (active_agents after)) still ∙ idle_turns after (active_agents after) (nothing_is_left rows at consistent early)

-- so an explanation reports no grant
pub nothing_is_explained : NothingIsExplained
nothing_is_explained rows at later consistent early before =
    let after : Rows = cycle rows at in
    let seam : drop (length after.offers) after.offers ≡ [] =
    ap (drop (length after.offers)) (sym (append-nil after.offers)) ∙ drop-append_seam after.offers [] in
    grants_are_offers after later
    ∙ ap (λ (r : Rows). map offered (new_offers after r)) (second_cycles_are_idle rows at later consistent early before)
    ∙ ap (map offered) seam

-- ---- the first client

pub nobody_is_passed : NobodyIsPassed
nobody_is_passed rows agent earlier later client consistent total order =
    all_get_nothing agent total rows earlier (bundles-consistent rows consistent) (filters_of rows consistent)
