-- The explanation of a cycle, client by client and agent by agent.
use Rattle.std.proofs.Common.{◌≡◌, ℕ, ◌+◌, ◌<◌, ◌≤◌, suc, Bool, true, false, ◌&&◌, List, [], ◌∷◌, ◌++◌, Option, Some, None, length, map, drop, refl, sym, ap, subst, ◌∙◌, cond, arith, append_assoc, append-nil}
use Rattle.std.specs.Prelude.{slice_get, is_some, filter}
use Rattle.std.specs.Option.{option_map_or}
use Rattle.std.proofs.lemmas.Bool.{lt-ltb}
use Rattle.std.proofs.lemmas.List.{drop_all, length-map}
use Rattle.drf_role.specs.Path.{Path, role_part}
use Rattle.drf_role.proofs.PathLaws.{role_part-client_path}
use Rattle.drf_role.specs.Text.{Text}
use Rattle.drf_bundle.specs.Bundle.{part_for}
use Rattle.drf_bundle.specs.declared.resource.Resource.{Resource}
use Rattle.drf_gates.specs.quota.Allowance.{Allowance}
use Rattle.drf_rows.specs.Client.{Client, path_of}
use Rattle.drf_rows.specs.Cycle.{free_of, is_allocatable, with_offer, tried, all_tried, turn, turn_order, at_timestamp}
use Rattle.drf_row_laws.proofs.CycleLaws.{all_tried_none}
use Rattle.drf_rows.specs.Filters.{is_in_force, holds_back}
use Rattle.drf_rows.specs.Offers.{is_empty}
use Rattle.drf_rows.specs.Quota.{entitlement}
use Rattle.drf_rows.specs.Step.{live_rows}
use Rattle.drf_rows.specs.declared.rows.AgentRow.{AgentRow}
use Rattle.drf_rows.specs.declared.rows.FilterRow.{FilterRow}
use Rattle.drf_rows.specs.declared.rows.OfferRow.{OfferRow}
use Rattle.drf_rows.specs.declared.rows.Rows.{Rows}
use Rattle.drf_explain.specs.Each.{reported_here, reported_of_each, each_on, each_on_active, untouched_on, untouched_on_active, turn_on, turns_on_all, turns_by_agent}
use Rattle.drf_explain.specs.Explained.{outcome, outcome_by, reported_of_all, reported_of_active, reported_of_agent, after_agent, reported_of_agents, suppressed_of, explained}
use Rattle.drf_explain.proofs.ExplainedLaws.{filter_weaker, in_force_before, nothing_free}
use Rattle.drf_explain.specs.Gates.{AreGatesOf}
use Rattle.drf_explain.specs.declared.finding.Finding.{Finding}
use Rattle.drf_explain.specs.declared.finding.Finding.TheVariants.{Inactive, NothingFree, Tried, Left}
use Rattle.drf_explain.specs.declared.finding.Outcome.{Outcome}
use Rattle.drf_explain.specs.declared.gates.Gates.{Gates}
use Rattle.drf_tables.specs.cycle.Drafts.{with_offers}
use Rattle.drf_tables.proofs.DraftLaws.{agents-with_offers}
use Rattle.drf_laws.proofs.theorems.Clients.{path_of-injective}
use Rattle.drf_core.specs.cycle.Drafting.{IsRegisteredPath, IsTried, is_open_at, turn_at}
use Rattle.drf_core.specs.cycle.Entitling.{IsEntitlement, IsQuotaOf}
use Rattle.drf_core.specs.cycle.Explaining.{IsOutcomeOf, left_to_explain, left_reported, reported_at, reported_by, reported_on, untouched_at}
use Rattle.drf_core.proofs.drafting.Cycle.{begins_at}
use Rattle.drf_core.proofs.drafting.Turn.{element_at, queue_begins, turn_at-closed}

-- ---- drafts do not change filters, clock and limits, which decide an outcome together with the free resources

kept-with_offers : (rows : Rows) (offers : List OfferRow)
    → ((with_offers rows offers).filters ≡ rows.filters) × ((with_offers rows offers).clock ≡ rows.clock) × ((with_offers rows offers).limits ≡ rows.limits)
unfolding with_offer
kept-with_offers rows [] = (refl, refl, refl)
kept-with_offers rows (o ∷ os) = kept-with_offers (with_offer rows o) os

pub gates-drafts : (rows : Rows) (offers : List OfferRow) (agent : AgentRow) (gates : Gates) → AreGatesOf rows agent gates
    → AreGatesOf (with_offers rows offers) agent gates
gates-drafts rows offers agent gates are =
    let kept = kept-with_offers rows offers in
    record {
      name = are.name;
      timestamp = are.timestamp ∙ sym kept.1;
      filters = λ client bundle.
          subst (λ (q : List FilterRow × ℕ). filter (holds_back q.1 client agent.name bundle) gates.filters.items ≡ filter (holds_back q.1 client agent.name bundle) q.0)
          (λ i. (sym kept.0 i, sym kept.1 i)) (are.filters client bundle);
      limits = are.limits ∙ sym kept.2;
    }

-- expired filters have no effect
pub gates-live : (rows : Rows) (agent : AgentRow) (gates : Gates) → AreGatesOf (live_rows rows) agent gates → AreGatesOf rows agent gates
gates-live rows agent gates are = record {
  name = are.name;
  timestamp = are.timestamp;
  filters = λ client bundle.
      are.filters client bundle
      ∙ filter_weaker (holds_back rows.clock client agent.name bundle) (is_in_force rows.clock)
      (in_force_before rows.clock rows.clock client agent.name bundle (omega arith)) rows.filters;
  limits = are.limits;
}

-- ---- the outcome for a client

pub finding-is : (rows : Rows) (agent : AgentRow) (path : Path) (quota : Option Allowance) (free part bundle : List Resource) (name : Text) (of : Path) (what : Outcome)
    → ((client : Client) → path ≡ path_of client → what ≡ outcome_by rows agent client free part bundle)
    → part ≡ part_for (role_part path) free → IsEntitlement quota free (role_part path) bundle → IsQuotaOf rows quota
    → free ≡ free_of rows agent → name ≡ agent.name → of ≡ path → IsOutcomeOf rows agent path (Tried name of what)
finding-is rows agent path quota free part bundle name of what comes parted entitled counted is_free named same client joined =
    let role : role_part path ≡ client.role = ap role_part joined ∙ role_part-client_path client.role client.framework in
    let its_part : part ≡ part_for client.role (free_of rows agent) = parted ∙ (λ i. part_for (role i) (is_free i)) in
    let its_bundle : bundle ≡ entitlement rows (free_of rows agent) client =
    entitled rows client counted (sym role) ∙ ap (λ (f : List Resource). entitlement rows f client) is_free in
    let its : what ≡ outcome rows agent client = comes client joined ∙ (λ i. outcome_by rows agent client (is_free i) (its_part i) (its_bundle i)) in
    let path_is : of ≡ path_of client = same ∙ joined in
    λ i. Tried (named i) (path_is i) (its i)

-- ---- findings for clients

-- if enough is left for an offer, the first client is reported and tried, and then the others
reported_by-first : (each : Bool) (rows : Rows) (agent : AgentRow) (client : Client) (clients : List Client) → is_allocatable (free_of rows agent) ≡ true
    → reported_by each rows agent (client ∷ clients) ≡ reported_here rows agent client ∷ reported_by each (tried rows agent client) agent clients
reported_by-first true rows agent client clients worth = refl
reported_by-first false rows agent client clients worth =
    ap (λ b. cond b (reported_here rows agent client ∷ reported_of_all (tried rows agent client) agent clients)
    (Left agent.name (free_of rows agent) (suc (length clients)) ∷ [])) worth

-- if too little is left, the outcomes for all clients are those in the same rows
reported-behind : (rows : Rows) (agent : AgentRow) (clients : List Client) → is_allocatable (free_of rows agent) ≡ false
    → map (reported_here rows agent) clients ≡ reported_of_each rows agent clients
reported-behind rows agent [] little = refl
reported-behind rows agent (client ∷ clients) little =
    ap (λ fs. reported_here rows agent client ∷ fs)
    (reported-behind rows agent clients little
    ∙ ap (λ (r : Rows). reported_of_each r agent clients) (sym (all_tried_none rows agent (client ∷ []) little)))

-- the findings if too little is left, or no client remains
module _ (rows : Rows) (agent : AgentRow) (queue : List Path) (free : List Resource) (over : (is_some (slice_get queue 0) && is_allocatable free) ≡ false)
    (is_free : free ≡ free_of rows agent) where
  pub behind-each : (clients : List Client) → queue ≡ map path_of clients → map (reported_here rows agent) clients ≡ reported_by true rows agent clients
  behind-each [] queued = refl
  behind-each (client ∷ clients) queued =
      reported-behind rows agent (client ∷ clients)
      (ap is_allocatable (sym is_free) ∙ sym (ap (λ ps. is_some (slice_get ps 0) && is_allocatable free) queued) ∙ over)

  pub behind-counted : (clients : List Client) (waiting : ℕ) → queue ≡ map path_of clients → waiting ≡ length queue
      → left_reported agent.name free waiting ≡ reported_by false rows agent clients
  behind-counted [] waiting queued many = ap (λ n. left_reported agent.name free n) (many ∙ ap length queued)
  behind-counted (client ∷ clients) waiting queued many =
      let little : is_allocatable (free_of rows agent) ≡ false =
      ap is_allocatable (sym is_free) ∙ sym (ap (λ ps. is_some (slice_get ps 0) && is_allocatable free) queued) ∙ over in
      let as_many : waiting ≡ suc (length clients) = many ∙ ap length queued ∙ ap suc (length-map clients path_of) in
      (λ i. left_reported agent.name (is_free i) (as_many i))
      ∙ ap (λ b. cond b (Left agent.name (free_of rows agent) (suc (length clients)) ∷ []) []) (lt-ltb 0 (suc (length clients)) (omega arith))
      ∙ ap (λ b. cond b (reported_here rows agent client ∷ reported_of_all (tried rows agent client) agent clients)
      (Left agent.name (free_of rows agent) (suc (length clients)) ∷ [])) (sym little)

-- ---- clients in the queue

-- the findings for the clients in the queue complete the findings for all
abbrev pub AreReported : Bool → Rows → ℕ → Rows → Rows → List Path → List Finding → List Finding → Type 0
AreReported each rows place start now queue before findings = (agent : AgentRow) (clients : List Client) → slice_get rows.agents place ≡ Some agent
    → queue ≡ map path_of clients → findings ++ reported_by each now agent clients ≡ before ++ reported_by each start agent (turn_order start)

same_clients : (cs ds : List Client) → map path_of cs ≡ map path_of ds → cs ≡ ds
same_clients [] [] same = refl
same_clients [] (d ∷ ds) same = absurd cc
same_clients (c ∷ cs) [] same = absurd cc
same_clients (c ∷ cs) (d ∷ ds) same =
    let first : path_of c ≡ path_of d = cc in
    let head = path_of-injective c d first in
    let others : map path_of cs ≡ map path_of ds = cc in
    let tail = same_clients cs ds others in
    λ i. head i ∷ tail i

pub reported-begins : (each : Bool) (rows : Rows) (place : ℕ) (start : Rows) (queue : List Path) (findings : List Finding) → queue ≡ map path_of (turn_order start)
    → AreReported each rows place start start queue findings findings
reported-begins each rows place start queue findings order agent clients at queued =
    ap (λ cs. findings ++ reported_by each start agent cs) (same_clients clients (turn_order start) (sym queued ∙ order))

-- after a client was tried and reported, the others are in the queue
pub reported-passed : (each : Bool) (rows : Rows) (place : ℕ) (start now after : Rows) (queue left : List Path) (before findings next : List Finding) (path : Path)
    → AreReported each rows place start now queue before findings → now.agents ≡ rows.agents → IsRegisteredPath rows path → slice_get queue 0 ≡ Some path
    → IsTried now after place path → left ≡ drop 1 queue
    → ((agent : AgentRow) → slice_get rows.agents place ≡ Some agent → is_allocatable (free_of now agent) ≡ true)
    → ((agent : AgentRow) → slice_get rows.agents place ≡ Some agent
    → (finding : Finding) × IsOutcomeOf now agent path finding × (next ≡ findings ++ finding ∷ []))
    → AreReported each rows place start after left before next
reported-passed each rows place start now after queue left before findings next path reported agents known first tried_is left_is worth said agent clients at queued =
    let c = known.client in
    let f = said agent at in
    let next_rows : after ≡ tried now agent c = tried_is agent c (ap (λ as'. slice_get as' place) agents ∙ at) known.joined in
    let tail : drop 1 queue ≡ map path_of clients = sym left_is ∙ queued in
    ap (λ fs. fs ++ reported_by each after agent clients) f.2
    ∙ append_assoc findings (f.0 ∷ []) (reported_by each after agent clients)
    ∙ (λ i. findings ++ f.1 c known.joined i ∷ reported_by each (next_rows i) agent clients)
    ∙ ap (λ fs. findings ++ fs) (sym (reported_by-first each now agent c clients (worth agent at)))
    ∙ reported agent (c ∷ clients) at (queue_begins queue path first ∙ (λ i. known.joined i ∷ tail i))

-- ---- clients that are not tried

-- some clients are in the queue, and the findings for the others are reported
abbrev pub WaitBehind : Rows → AgentRow → List Client → List Path → List Finding → List Finding → Type 0
WaitBehind rows agent clients queue before findings =
    (rest : List Client) × (queue ≡ map path_of rest) × (findings ++ map (reported_here rows agent) rest ≡ before ++ map (reported_here rows agent) clients)

pub some_first : (queue : List Path) → is_some (slice_get queue 0) ≡ true → (path : Path) × (slice_get queue 0 ≡ Some path)
some_first [] some = absurd cc
some_first (path ∷ queue) some = (path, refl)

pub next_behind : (rows : Rows) (agent : AgentRow) (clients : List Client) (queue left : List Path) (before findings next : List Finding) (path : Path)
    → slice_get queue 0 ≡ Some path → (finding : Finding) × IsOutcomeOf rows agent path finding × (next ≡ findings ++ finding ∷ [])
    → left ≡ drop 1 queue → WaitBehind rows agent clients queue before findings → WaitBehind rows agent clients left before next
next_behind rows agent clients queue left before findings next path first reported left_is behind = by behind.0 behind.1 behind.2
  where
    by : (rest : List Client) → queue ≡ map path_of rest → findings ++ map (reported_here rows agent) rest ≡ before ++ map (reported_here rows agent) clients
        → WaitBehind rows agent clients left before next
    by [] queued so_far = let nothing : Some path ≡ None = sym first ∙ ap (λ ps. slice_get ps 0) queued in absurd cc
    by (c ∷ cs) queued so_far =
        let here : Some path ≡ Some (path_of c) = sym first ∙ ap (λ ps. slice_get ps 0) queued in
        let joined : path ≡ path_of c = cc in (
          cs,
          left_is ∙ ap (λ ps. drop 1 ps) queued,
          ap (λ fs. fs ++ map (reported_here rows agent) cs) reported.2
              ∙ append_assoc findings (reported.0 ∷ []) (map (reported_here rows agent) cs)
              ∙ (λ i. findings ++ reported.1 c joined i ∷ map (reported_here rows agent) cs)
              ∙ so_far,
        )

pub none_behind : (rows : Rows) (agent : AgentRow) (clients : List Client) (queue : List Path) (before findings : List Finding)
    → is_some (slice_get queue 0) ≡ false → WaitBehind rows agent clients queue before findings
    → findings ≡ before ++ map (reported_here rows agent) clients
none_behind rows agent clients queue before findings none behind = by behind.0 behind.1 behind.2
  where
    by : (rest : List Client) → queue ≡ map path_of rest → findings ++ map (reported_here rows agent) rest ≡ before ++ map (reported_here rows agent) clients
        → findings ≡ before ++ map (reported_here rows agent) clients
    by [] queued so_far = sym (append-nil findings) ∙ so_far
    by (c ∷ cs) queued so_far = let some : true ≡ false = sym (ap (λ ps. is_some (slice_get ps 0)) queued) ∙ none in absurd cc

-- ---- the turn of an agent

-- the agent has the same place in the rows with the drafts
pub agent_in : (rows : Rows) (offers : List OfferRow) (place : ℕ) → place < length rows.agents
    → (a : AgentRow) × (slice_get rows.agents place ≡ Some a) × (slice_get (with_offers rows offers).agents place ≡ Some a)
agent_in rows offers place inside =
    let agent = element_at rows.agents place inside in
    (agent.0, agent.1, ap (λ as'. slice_get as' place) (agents-with_offers rows offers) ∙ agent.1)

module _ (rows : Rows) (place : ℕ) (agent : AgentRow) (at : slice_get rows.agents place ≡ Some agent) where
  pub reported_at-agent : (each : Bool) → reported_at each rows place ≡ reported_on each rows agent
  reported_at-agent each = ap (λ o. option_map_or (reported_on each rows) o []) at

  pub untouched_at-agent : untouched_at rows place ≡ untouched_on rows agent
  untouched_at-agent = ap (λ o. option_map_or (untouched_on rows) o []) at

  pub turn_at-agent : turn_at rows place ≡ after_agent rows agent
  turn_at-agent = ap (λ o. option_map_or (λ a. cond a.active (turn rows a) rows) o rows) at

  reported_on-idle : (each : Bool) → agent.active ≡ false → Inactive agent.name ∷ [] ≡ reported_on each rows agent
  reported_on-idle true idle = sym (ap (λ b. cond b (each_on_active rows agent) (Inactive agent.name ∷ [])) idle)
  reported_on-idle false idle = sym (ap (λ b. cond b (reported_of_active rows agent) (Inactive agent.name ∷ [])) idle)

  pub reported_at-idle : (each : Bool) → agent.active ≡ false → Inactive agent.name ∷ [] ≡ reported_at each rows place
  reported_at-idle each idle = reported_on-idle each idle ∙ sym (reported_at-agent each)

  reported_on-full : (each : Bool) → agent.active ≡ true → is_empty (free_of rows agent) ≡ true → NothingFree agent.name ∷ [] ≡ reported_on each rows agent
  reported_on-full true active none =
      sym (ap (λ b. cond b (each_on_active rows agent) (Inactive agent.name ∷ [])) active
      ∙ ap (λ b. cond b (NothingFree agent.name ∷ []) (reported_of_each rows agent (turn_order rows))) none)
  reported_on-full false active none =
      sym (ap (λ b. cond b (reported_of_active rows agent) (Inactive agent.name ∷ [])) active
      ∙ ap (λ b. cond b (NothingFree agent.name ∷ []) (reported_of_all rows agent (turn_order rows))) none)

  pub reported_at-full : (each : Bool) → agent.active ≡ true → is_empty (free_of rows agent) ≡ true → NothingFree agent.name ∷ [] ≡ reported_at each rows place
  reported_at-full each active none = reported_on-full each active none ∙ sym (reported_at-agent each)

  reported_on-tried : (each : Bool) → agent.active ≡ true → is_empty (free_of rows agent) ≡ false
      → reported_by each rows agent (turn_order rows) ≡ reported_on each rows agent
  reported_on-tried true active some =
      sym (ap (λ b. cond b (each_on_active rows agent) (Inactive agent.name ∷ [])) active
      ∙ ap (λ b. cond b (NothingFree agent.name ∷ []) (reported_of_each rows agent (turn_order rows))) some)
  reported_on-tried false active some =
      sym (ap (λ b. cond b (reported_of_active rows agent) (Inactive agent.name ∷ [])) active
      ∙ ap (λ b. cond b (NothingFree agent.name ∷ []) (reported_of_all rows agent (turn_order rows))) some)

  pub reported_at-tried : (each : Bool) → agent.active ≡ true → is_empty (free_of rows agent) ≡ false
      → reported_by each rows agent (turn_order rows) ≡ reported_at each rows place
  reported_at-tried each active some = reported_on-tried each active some ∙ sym (reported_at-agent each)

  -- an inactive agent has no findings for clients
  pub untouched_at-idle : agent.active ≡ false → [] ≡ untouched_at rows place
  untouched_at-idle idle = sym (untouched_at-agent ∙ ap (λ b. cond b (untouched_on_active rows agent) []) idle)

  pub untouched_at-full : agent.active ≡ true → is_empty (free_of rows agent) ≡ true → [] ≡ untouched_at rows place
  untouched_at-full active none =
      sym (untouched_at-agent ∙ ap (λ b. cond b (untouched_on_active rows agent) []) active
      ∙ ap (λ b. cond b [] (map (reported_here rows agent) (turn_order rows))) none)

  pub untouched_at-tried : agent.active ≡ true → is_empty (free_of rows agent) ≡ false
      → map (reported_here rows agent) (turn_order rows) ≡ untouched_at rows place
  untouched_at-tried active some =
      sym (untouched_at-agent ∙ ap (λ b. cond b (untouched_on_active rows agent) []) active
      ∙ ap (λ b. cond b [] (map (reported_here rows agent) (turn_order rows))) some)

  open-idle : agent.active ≡ false → is_open_at rows place ≡ false
  open-idle idle =
      ap (λ o. option_map_or (λ a. a.active && is_allocatable (free_of rows a)) o false) at
      ∙ ap (λ b. b && is_allocatable (free_of rows agent)) idle

  open-full : is_empty (free_of rows agent) ≡ true → is_open_at rows place ≡ false
  open-full none =
      ap (λ o. option_map_or (λ a. a.active && is_allocatable (free_of rows a)) o false) at
      ∙ ap (λ b. agent.active && b) (nothing_free (free_of rows agent) none)
      ∙ never agent.active
    where
      never : (b : Bool) → (b && false) ≡ false
      never true = refl
      never false = refl

  pub turn_at-idle : agent.active ≡ false → rows ≡ turn_at rows place
  turn_at-idle idle = turn_at-closed rows place (open-idle idle)

  pub turn_at-full : is_empty (free_of rows agent) ≡ true → rows ≡ turn_at rows place
  turn_at-full none = turn_at-closed rows place (open-full none)

  pub turn_at-tried : agent.active ≡ true → all_tried rows agent (turn_order rows) ≡ turn_at rows place
  unfolding turn
  turn_at-tried active = sym (turn_at-agent ∙ ap (λ b. cond b (all_tried rows agent (turn_order rows)) rows) active)

-- ---- the turns of all agents

-- the next agent has its turn
pub reported-next : (rows before after : Rows) (i : ℕ) (first findings next : List Finding) → i < length rows.agents → before.agents ≡ rows.agents
    → after ≡ turn_at before i → next ≡ findings ++ reported_at false before i
    → findings ++ reported_of_agents before (drop i rows.agents) ≡ first ++ reported_of_agents rows rows.agents
    → next ++ reported_of_agents after (drop (i + 1) rows.agents) ≡ first ++ reported_of_agents rows rows.agents
reported-next rows before after i first findings next within same turned added so_far =
    let b = begins_at rows.agents i within in
    let at : slice_get before.agents i ≡ Some b.first = ap (λ as'. slice_get as' i) same ∙ b.at in
    let later : List AgentRow = drop (i + 1) rows.agents in
    ap (λ fs. fs ++ reported_of_agents after later) (added ∙ ap (λ fs. findings ++ fs) (reported_at-agent before i b.first at false))
    ∙ append_assoc findings (reported_of_agent before b.first) (reported_of_agents after later)
    ∙ ap (λ (r : Rows). findings ++ (reported_of_agent before b.first ++ reported_of_agents r later)) (turned ∙ turn_at-agent before i b.first at)
    ∙ ap (λ as'. findings ++ reported_of_agents before as') (sym b.rest)
    ∙ so_far

-- after the last agent no findings remain
pub none_left : (over : Bool) (rows : Rows) (offers : List OfferRow) (place : ℕ) → length rows.agents ≤ place → left_to_explain over rows offers place ≡ []
none_left true rows offers place past = refl
none_left false rows offers place past = ap (turns_on_all (with_offers rows offers)) (drop_all place rows.agents past)

-- the next agent is reported, and the others remain
pub explanations-next : (rows before after : Rows) (i : ℕ) (reported : List Finding) → i < length rows.agents → before.agents ≡ rows.agents
    → after ≡ turn_at before i → reported ≡ [] ++ reported_at true before i
    → turns_on_all before (drop i rows.agents) ≡ (reported, untouched_at before i) ∷ turns_on_all after (drop (i + 1) rows.agents)
explanations-next rows before after i reported within same turned said =
    let b = begins_at rows.agents i within in
    let at : slice_get before.agents i ≡ Some b.first = ap (λ as'. slice_get as' i) same ∙ b.at in
    let later : List AgentRow = drop (i + 1) rows.agents in
    let each : each_on before b.first ≡ reported = sym (said ∙ reported_at-agent before i b.first at true) in
    let untouched : untouched_on before b.first ≡ untouched_at before i = sym (untouched_at-agent before i b.first at) in
    let next : after_agent before b.first ≡ after = sym (turned ∙ turn_at-agent before i b.first at) in
    ap (turns_on_all before) b.rest ∙ (λ j. (each j, untouched j) ∷ turns_on_all (next j) later)

-- the outcome for each client of the next agent if it were tried first
pub untouched-next : (rows before : Rows) (i : ℕ) (reported : List Finding) (turn : List Finding × List Finding) (turns : List (List Finding × List Finding))
    → i < length rows.agents → before.agents ≡ rows.agents → reported ≡ [] ++ untouched_at before i
    → turns_on_all before (drop i rows.agents) ≡ turn ∷ turns → reported ≡ turn.1
untouched-next rows before i reported turn turns within same said is =
    let b = begins_at rows.agents i within in
    let at : slice_get before.agents i ≡ Some b.first = ap (λ as'. slice_get as' i) same ∙ b.at in
    let later : List AgentRow = drop (i + 1) rows.agents in
    let whole : turn_on before b.first ∷ turns_on_all (after_agent before b.first) later ≡ turn ∷ turns = sym (ap (turns_on_all before) b.rest) ∙ is in
    let first : turn_on before b.first ≡ turn = cc in
    said ∙ untouched_at-agent before i b.first at ∙ ap (λ (t : List Finding × List Finding). t.1) first

-- ---- the cycle

-- an explanation begins with all agents
pub explanations-begins : (rows tables : Rows) (at : ℕ) → tables ≡ at_timestamp rows at → turns_on_all tables tables.agents ≡ turns_by_agent rows at
unfolding turns_by_agent
explanations-begins rows tables at moved = ap (λ (r : Rows). turns_on_all r r.agents) moved

pub explained-is : (rows tables live : Rows) (at : ℕ) (first findings : List Finding) → tables ≡ at_timestamp rows at → live ≡ live_rows tables
    → first ≡ suppressed_of live → findings ≡ first ++ reported_of_agents tables tables.agents → findings ≡ explained rows at
unfolding explained
explained-is rows tables live at first findings moved is begins reported =
    reported
    ∙ ap (λ fs. fs ++ reported_of_agents tables tables.agents) (begins ∙ ap suppressed_of (is ∙ ap live_rows moved))
    ∙ ap (λ (r : Rows). suppressed_of rows ++ reported_of_agents r r.agents) moved
