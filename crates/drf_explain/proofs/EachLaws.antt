-- Lemmas about `specs/EachLaws.antt`.
use Rattle.std.specs.Prelude.{◌≡◌, ℕ, ◌≤◌, suc, max, Bool, true, false, not, ◌&&◌, List, [], ◌∷◌, ◌++◌, length, map, filter, slice_get, Some, if◌then◌else◌, codes}
use Rattle.std.specs.List.{flat_map, list_all, AllZip}
use Rattle.std.proofs.Common.{refl, sym, ap, ◌∙◌, inl, inr, cond, arith}
use Rattle.std.proofs.lemmas.Bool.{cases_Bool}
use Rattle.std.proofs.lemmas.Bool.Decides.{nat_tests}
use Rattle.std.proofs.lemmas.List.Concat.{flat_map-append}
use Rattle.drf_role.specs.Text.{Text}
use Rattle.drf_role.specs.Path.{Path}
use Rattle.drf_bundle.specs.Bundle.{part_for, is_for, quantities_of}
use Rattle.drf_bundle.specs.Value.{Thousandths}
use Rattle.drf_bundle.specs.Quantities.{amount_of}
use Rattle.drf_bundle.specs.laws.SumLaws.{of_name}
use Rattle.drf_bundle.proofs.theorems.SumLaws.{amount-quantities_of}
use Rattle.drf_bundle.proofs.theorems.PartLaws.{where-some}
use Rattle.drf_bundle.specs.declared.resource.Resource.{Resource}
use Rattle.drf_rows.specs.Client.{Client, path_of}
use Rattle.drf_rows.specs.Cycle.{free_of, grant, is_allocatable, tried, all_tried, turn_order, turn, turns, at_timestamp}
use Rattle.drf_row_laws.proofs.CycleLaws.{all_tried_none, little_entitlement}
use Rattle.drf_rows.specs.Filters.{holds_back, is_in_force, in_force}
use Rattle.drf_rows.specs.Held.{standing_of}
use Rattle.drf_rows.specs.Offers.{is_empty}
use Rattle.drf_rows.specs.declared.rows.AgentRow.{AgentRow}
use Rattle.drf_rows.specs.declared.rows.FilterRow.{FilterRow}
use Rattle.drf_rows.specs.declared.rows.Rows.{Rows}
use Rattle.drf_explain.specs.Explained.{outcome, reported_of_all, reported_of_agent, reported_of_agents, after_agent, suppressed_of, explained}
use Rattle.drf_explain.specs.Each.{reported_here, reported_of_each, each_on_active, each_on, each_on_all, each_by_agent, untouched_on_active, untouched_on, turn_on, turns_on_all, turns_by_agent}
use Rattle.drf_explain.specs.ExplainedLaws.{Granted, grants_in}
use Rattle.drf_explain.proofs.ExplainedLaws.{HoldTheSame, with_filters, grants_are_offers, tried-none, outcome-filters, tried-filters, kept-tried, still_the_same, after-filters, kept-agent, filter_weaker, in_force_before}
use Rattle.drf_explain.specs.declared.finding.Finding.{Finding}
use Rattle.drf_explain.specs.declared.finding.Finding.TheVariants.{Suppressed, Inactive, NothingFree, Tried, Left}
use Rattle.drf_explain.specs.declared.finding.Outcome.TheVariants.{Grant, HeldBack, OverLimit, BelowThreshold, NothingLeft, ReservedForOthers}
use Rattle.drf_explain.specs.EachLaws.{tried_in, IsOpen, EachIsReportedOnce, EachIsReportedAtItsTimestamp, TurnsAreReported, EachIsUntouched, UntouchedIsReported, is_late, is_reported_late, counted, IsCutTo, ExplainedIsCut, EachGrantIsAnOffer, LiveRowsAreReported, LiveTurnsAreReported, whole}

-- ---- which clients are listed

tried-each : (rows : Rows) (agent : AgentRow) (clients : List Client) → flat_map tried_in (reported_of_each rows agent clients) ≡ map path_of clients
tried-each rows agent [] = refl
tried-each rows agent (client ∷ clients) = ap (λ ps. path_of client ∷ ps) (tried-each (tried rows agent client) agent clients)

-- the findings about an open agent are those about the clients of the turn
pub each_on-open : (rows : Rows) (agent : AgentRow) → IsOpen rows agent → each_on rows agent ≡ reported_of_each rows agent (turn_order rows)
each_on-open rows agent opened =
    (λ i. if opened.active i then each_on_active rows agent else Inactive agent.name ∷ [])
    ∙ (λ i. if opened.some i then NothingFree agent.name ∷ [] else reported_of_each rows agent (turn_order rows))

pub each_is_reported_once : EachIsReportedOnce
each_is_reported_once rows agent opened = ap (flat_map tried_in) (each_on-open rows agent opened) ∙ tried-each rows agent (turn_order rows)

each-append : (rows : Rows) (agent : AgentRow) (earlier later : List Client)
    → reported_of_each rows agent (earlier ++ later) ≡ reported_of_each rows agent earlier ++ reported_of_each (all_tried rows agent earlier) agent later
each-append rows agent [] later = refl
each-append rows agent (client ∷ earlier) later =
    ap (λ fs. Tried agent.name (path_of client) (outcome rows agent client) ∷ fs) (each-append (tried rows agent client) agent earlier later)

each-at : (rows : Rows) (agent : AgentRow) (earlier later : List Client) (client : Client)
    → slice_get (reported_of_each rows agent (earlier ++ client ∷ later)) (length earlier)
    ≡ Some (Tried agent.name (path_of client) (outcome (all_tried rows agent earlier) agent client))
each-at rows agent [] later client = refl
each-at rows agent (first ∷ earlier) later client = each-at (tried rows agent first) agent earlier later client

after-first : (rows : Rows) (before : List AgentRow) (first : AgentRow) (active : Bool)
    → turns (cond active (turn rows first) rows) (filter (λ a. a.active) before)
    ≡ turns rows (cond active (first ∷ filter (λ a. a.active) before) (filter (λ a. a.active) before))
after-first rows before first true = refl
after-first rows before first false = refl

each_on_all-at : (rows : Rows) (before after : List AgentRow) (agent : AgentRow)
    → slice_get (each_on_all rows (before ++ agent ∷ after)) (length before) ≡ Some (each_on (turns rows (filter (λ a. a.active) before)) agent)
each_on_all-at rows [] after agent = refl
each_on_all-at rows (first ∷ before) after agent =
    each_on_all-at (after_agent rows first) before after agent ∙ ap (λ (r : Rows). Some (each_on r agent)) (after-first rows before first first.active)

pub each_is_reported_at_its_timestamp : EachIsReportedAtItsTimestamp
unfolding each_by_agent
each_is_reported_at_its_timestamp rows at before after agent agents =
    let start : Rows = turns (at_timestamp rows at) (filter (λ a. a.active) before) in record {
      turn =
          ap (λ as'. slice_get (each_on_all (at_timestamp rows at) as') (length before)) agents
          ∙ each_on_all-at (at_timestamp rows at) before after agent;
      client = λ opened earlier later client order.
          ap (λ fs. slice_get fs (length earlier)) (each_on-open start agent opened ∙ ap (reported_of_each start agent) order)
          ∙ each-at start agent earlier later client;
    }

-- ---- outcomes at the beginning of a turn

turns-reported : (rows : Rows) (agents : List AgentRow) → map (λ turn. turn.0) (turns_on_all rows agents) ≡ each_on_all rows agents
turns-reported rows [] = refl
turns-reported rows (agent ∷ agents) = ap (λ reported. each_on rows agent ∷ reported) (turns-reported (after_agent rows agent) agents)

pub turns_are_reported : TurnsAreReported
unfolding each_by_agent turns_by_agent
turns_are_reported rows at = turns-reported (at_timestamp rows at) rows.agents

turns_on_all-at : (rows : Rows) (before after : List AgentRow) (agent : AgentRow)
    → slice_get (turns_on_all rows (before ++ agent ∷ after)) (length before) ≡ Some (turn_on (turns rows (filter (λ a. a.active) before)) agent)
turns_on_all-at rows [] after agent = refl
turns_on_all-at rows (first ∷ before) after agent =
    turns_on_all-at (after_agent rows first) before after agent ∙ ap (λ (r : Rows). Some (turn_on r agent)) (after-first rows before first first.active)

untouched_on-shut : (rows : Rows) (agent : AgentRow) → (agent.active && not (is_empty (free_of rows agent))) ≡ false → untouched_on rows agent ≡ []
untouched_on-shut rows agent = by agent.active (is_empty (free_of rows agent))
  where
    by : (active none : Bool) → (active && not none) ≡ false → cond active (cond none [] (map (reported_here rows agent) (turn_order rows))) [] ≡ []
    by true true shut = refl
    by true false shut = absurd cc
    by false none shut = refl

pub each_is_untouched : EachIsUntouched
unfolding turns_by_agent
each_is_untouched rows at before after agent agents =
    let start : Rows = turns (at_timestamp rows at) (filter (λ a. a.active) before) in record {
      turn =
          ap (λ as'. slice_get (turns_on_all (at_timestamp rows at) as') (length before)) agents
          ∙ turns_on_all-at (at_timestamp rows at) before after agent;
      clients = λ opened.
          (λ i. if opened.active i then untouched_on_active start agent else [])
          ∙ (λ i. if opened.some i then [] else map (reported_here start agent) (turn_order start));
      nobody = untouched_on-shut start agent;
    }

none_tried : (rows : Rows) (agent : AgentRow) (earlier : List Client) → flat_map grants_in (reported_of_each rows agent earlier) ≡ []
    → all_tried rows agent earlier ≡ rows
none_tried rows agent [] none = refl
none_tried rows agent (client ∷ earlier) none =
    let parts = append_nothing (grants_in (reported_here rows agent client)) (flat_map grants_in (reported_of_each (tried rows agent client) agent earlier)) none in
    none_tried (tried rows agent client) agent earlier parts.1 ∙ tried-none rows agent client parts.0
  where
    append_nothing : (xs ys : List Granted) → xs ++ ys ≡ [] → (xs ≡ []) × (ys ≡ [])
    append_nothing [] ys none = (refl, none)
    append_nothing (x ∷ xs) ys none = absurd cc

pub untouched_is_reported : UntouchedIsReported
untouched_is_reported rows agent earlier client none = ap (λ (r : Rows). reported_here r agent client) (none_tried rows agent earlier none)

-- ---- where too little is left

-- a part of a bundle that is too small for an offer is too small too
part_less : (role : Path) (free : List Resource) (name : Text)
    → amount_of (quantities_of (part_for role free)) name ≤ amount_of (quantities_of free) name
part_less role free name = omega (
  arith,
  amount-quantities_of free name,
  amount-quantities_of (part_for role free) name,
  where-some (is_for role) (of_name name) Thousandths free,
)

pub little_part : (role : Path) (free : List Resource) → is_allocatable free ≡ false → is_allocatable (part_for role free) ≡ false
little_part role free little =
    let cpus = part_less role free (codes "cpus") in
    let mem = part_less role free (codes "mem") in
    grind (arith, nat_tests)

late_shortage : (gone none : Bool) → is_late (if gone then NothingLeft else if none then ReservedForOthers else BelowThreshold) ≡ true
late_shortage true none = refl
late_shortage false true = refl
late_shortage false false = refl

late-outcome : (rows : Rows) (agent : AgentRow) (client : Client) → is_allocatable (free_of rows agent) ≡ false → is_late (outcome rows agent client) ≡ true
late-outcome rows agent client little =
    rw (little_entitlement rows (free_of rows agent) client little)
    (rw (little_part client.role (free_of rows agent) little) (late_shortage (is_empty (free_of rows agent)) (is_empty (part_for client.role (free_of rows agent)))))

each_is_late : (rows : Rows) (agent : AgentRow) (clients : List Client) → is_allocatable (free_of rows agent) ≡ false
    → list_all is_reported_late (reported_of_each rows agent clients) ≡ true
each_is_late rows agent [] little = refl
each_is_late rows agent (client ∷ clients) little =
    let same : tried rows agent client ≡ rows = all_tried_none rows agent (client ∷ []) little in
    (λ i. late-outcome rows agent client little i && list_all is_reported_late (reported_of_each (same i) agent clients))
    ∙ each_is_late rows agent clients little

length-each : (rows : Rows) (agent : AgentRow) (clients : List Client) → length (reported_of_each rows agent clients) ≡ length clients
length-each rows agent [] = refl
length-each rows agent (client ∷ clients) = ap suc (length-each (tried rows agent client) agent clients)

cut-clients : (rows : Rows) (agent : AgentRow) (clients : List Client) → IsCutTo (reported_of_each rows agent clients) (reported_of_all rows agent clients)
cut-clients rows agent [] =
    record { before = []; behind = []; agent = agent.name; left = []; longer = refl; shorter = refl; little = λ some. absurd (some refl); late = refl }
cut-clients rows agent (client ∷ clients) = elim (cases_Bool (is_allocatable (free_of rows agent))) [
  | inl enough ↦
      let first : Finding = Tried agent.name (path_of client) (outcome rows agent client) in
      let others = cut-clients (tried rows agent client) agent clients in
      record {
        before = first ∷ others.before;
        behind = others.behind;
        agent = others.agent;
        left = others.left;
        longer = ap (λ fs. first ∷ fs) others.longer;
        shorter = rw enough (ap (λ fs. first ∷ fs) others.shorter);
        little = others.little;
        late = others.late;
      }
  | inr little ↦ record {
    before = [];
    behind = reported_of_each rows agent (client ∷ clients);
    agent = agent.name;
    left = free_of rows agent;
    longer = refl;
    shorter = rw little (ap (λ n. Left agent.name (free_of rows agent) (suc n) ∷ []) (sym (length-each (tried rows agent client) agent clients)));
    little = λ some. little;
    late = each_is_late rows agent (client ∷ clients) little;
  }
]

cut-agent : (rows : Rows) (agent : AgentRow) → IsCutTo (each_on rows agent) (reported_of_agent rows agent)
cut-agent rows agent = by agent.active (is_empty (free_of rows agent))
  where
    by : (active none : Bool) → IsCutTo
        (cond active (cond none (NothingFree agent.name ∷ []) (reported_of_each rows agent (turn_order rows))) (Inactive agent.name ∷ []))
        (cond active (cond none (NothingFree agent.name ∷ []) (reported_of_all rows agent (turn_order rows))) (Inactive agent.name ∷ []))
    by true true = whole (NothingFree agent.name ∷ [])
    by true false = cut-clients rows agent (turn_order rows)
    by false none = whole (Inactive agent.name ∷ [])

-- the shorter explanation, a list for each agent
abbrev shorter_on_all : Rows → List AgentRow → List (List Finding)
shorter_on_all rows [] = []
shorter_on_all rows (agent ∷ agents) = reported_of_agent rows agent ∷ shorter_on_all (after_agent rows agent) agents

shorter-joined : (rows : Rows) (agents : List AgentRow) → reported_of_agents rows agents ≡ flat_map (λ reported. reported) (shorter_on_all rows agents)
shorter-joined rows [] = refl
shorter-joined rows (agent ∷ agents) = ap (λ fs. reported_of_agent rows agent ++ fs) (shorter-joined (after_agent rows agent) agents)

cut-agents : (rows : Rows) (agents : List AgentRow) → AllZip IsCutTo (each_on_all rows agents) (shorter_on_all rows agents)
cut-agents rows [] = tt
cut-agents rows (agent ∷ agents) = (cut-agent rows agent, cut-agents (after_agent rows agent) agents)

pub explained_is_cut : ExplainedIsCut
unfolding explained each_by_agent
explained_is_cut rows at = record {
  shorter = shorter_on_all (at_timestamp rows at) rows.agents;
  whole = ap (λ fs. suppressed_of rows ++ fs) (shorter-joined (at_timestamp rows at) rows.agents);
  cut = cut-agents (at_timestamp rows at) rows.agents;
}

-- ---- grants

-- no client is granted anything where too little is left
no_grant_late : (findings : List Finding) → list_all is_reported_late findings ≡ true → flat_map grants_in findings ≡ []
no_grant_late [] late = refl
no_grant_late (Tried agent client (Grant bundle) ∷ findings) late = cc
no_grant_late (Tried agent client (HeldBack until) ∷ findings) late = no_grant_late findings (absurd cc)
no_grant_late (Tried agent client (OverLimit role) ∷ findings) late = no_grant_late findings (absurd cc)
no_grant_late (Tried agent client BelowThreshold ∷ findings) late = no_grant_late findings late
no_grant_late (Tried agent client NothingLeft ∷ findings) late = no_grant_late findings late
no_grant_late (Tried agent client ReservedForOthers ∷ findings) late = no_grant_late findings late
no_grant_late (Suppressed client ∷ findings) late = no_grant_late findings (absurd cc)
no_grant_late (Inactive agent ∷ findings) late = no_grant_late findings (absurd cc)
no_grant_late (NothingFree agent ∷ findings) late = no_grant_late findings (absurd cc)
no_grant_late (Left agent left clients ∷ findings) late = no_grant_late findings (absurd cc)

no_grant_counted : (agent : Text) (left : List Resource) (findings : List Finding) → flat_map grants_in (counted agent left findings) ≡ []
no_grant_counted agent left [] = refl
no_grant_counted agent left (finding ∷ findings) = refl

cut-grants : (longer shorter : List Finding) → IsCutTo longer shorter → flat_map grants_in longer ≡ flat_map grants_in shorter
cut-grants longer shorter cut =
    ap (flat_map grants_in) cut.longer
    ∙ flat_map-append grants_in cut.before cut.behind
    ∙ ap (λ gs. flat_map grants_in cut.before ++ gs) (no_grant_late cut.behind cut.late ∙ sym (no_grant_counted cut.agent cut.left cut.behind))
    ∙ sym (flat_map-append grants_in cut.before (counted cut.agent cut.left cut.behind))
    ∙ ap (flat_map grants_in) (sym cut.shorter)

all-grants : (longer shorter : List (List Finding)) → AllZip IsCutTo longer shorter
    → flat_map grants_in (flat_map (λ reported. reported) longer) ≡ flat_map grants_in (flat_map (λ reported. reported) shorter)
all-grants [] [] cut = refl
all-grants [] (reported ∷ shorter) cut = absurd cut
all-grants (reported ∷ longer) [] cut = absurd cut
all-grants (more ∷ longer) (less ∷ shorter) cut =
    flat_map-append grants_in more (flat_map (λ reported. reported) longer)
    ∙ (λ i. cut-grants more less cut.0 i ++ all-grants longer shorter cut.1 i)
    ∙ sym (flat_map-append grants_in less (flat_map (λ reported. reported) shorter))

pub each_grant_is_an_offer : EachGrantIsAnOffer
each_grant_is_an_offer rows at =
    let cut = explained_is_cut rows at in
    flat_map-append grants_in (suppressed_of rows) (flat_map (λ reported. reported) (each_by_agent rows at))
    ∙ ap (λ gs. flat_map grants_in (suppressed_of rows) ++ gs) (all-grants (each_by_agent rows at) cut.shorter cut.cut)
    ∙ sym (flat_map-append grants_in (suppressed_of rows) (flat_map (λ reported. reported) cut.shorter))
    ∙ ap (flat_map grants_in) (sym cut.whole)
    ∙ grants_are_offers rows at

-- ---- expired filters

each-filters : (rows : Rows) (fs : List FilterRow) (agent : AgentRow) (clients : List Client) → HoldTheSame fs rows.filters rows.clock
    → reported_of_each (with_filters rows fs) agent clients ≡ reported_of_each rows agent clients
each-filters rows fs agent [] same = refl
each-filters rows fs agent (client ∷ clients) same =
    let after : Rows = tried rows agent client in
    let others : reported_of_each (tried (with_filters rows fs) agent client) agent clients ≡ reported_of_each after agent clients =
    ap (λ (r : Rows). reported_of_each r agent clients) (tried-filters rows fs same agent client)
    ∙ each-filters after fs agent clients (still_the_same rows after fs (kept-tried rows agent client (grant rows agent client)) same) in
    λ i. Tried agent.name (path_of client) (outcome-filters rows fs same agent client i) ∷ others i

each_on-filters : (rows : Rows) (fs : List FilterRow) (agent : AgentRow) → HoldTheSame fs rows.filters rows.clock
    → each_on (with_filters rows fs) agent ≡ each_on rows agent
unfolding free_of standing_of
each_on-filters rows fs agent same =
    let all = each-filters rows fs agent (turn_order rows) same in
    λ i. if agent.active then (if is_empty (free_of rows agent) then NothingFree agent.name ∷ [] else all i) else Inactive agent.name ∷ []

each_on_all-filters : (rows : Rows) (fs : List FilterRow) (agents : List AgentRow) → HoldTheSame fs rows.filters rows.clock
    → each_on_all (with_filters rows fs) agents ≡ each_on_all rows agents
each_on_all-filters rows fs [] same = refl
each_on_all-filters rows fs (agent ∷ agents) same =
    let after : Rows = after_agent rows agent in
    let others : each_on_all (after_agent (with_filters rows fs) agent) agents ≡ each_on_all after agents =
    ap (λ (r : Rows). each_on_all r agents) (after-filters rows fs agent agent.active same)
    ∙ each_on_all-filters after fs agents (still_the_same rows after fs (kept-agent rows agent agent.active) same) in
    λ i. each_on-filters rows fs agent same i ∷ others i

-- the filters in force cover the same bundles at a timestamp as all filters do
live_filters : (rows : Rows) (at : ℕ) → HoldTheSame (in_force rows.clock rows.filters) rows.filters (max rows.clock at)
live_filters rows at = λ client agent bundle.
    let late : rows.clock ≤ max rows.clock at = omega arith in
    filter_weaker (holds_back (max rows.clock at) client agent bundle) (is_in_force rows.clock)
    (in_force_before rows.clock (max rows.clock at) client agent bundle late) rows.filters

pub live_rows_are_reported : LiveRowsAreReported
unfolding each_by_agent
live_rows_are_reported rows at =
    each_on_all-filters (at_timestamp rows at) (in_force rows.clock rows.filters) rows.agents (live_filters rows at)

untouched_on-filters : (rows : Rows) (fs : List FilterRow) (agent : AgentRow) → HoldTheSame fs rows.filters rows.clock
    → untouched_on (with_filters rows fs) agent ≡ untouched_on rows agent
unfolding free_of standing_of
untouched_on-filters rows fs agent same =
    λ i. if agent.active then (if is_empty (free_of rows agent) then []
    else map (λ client. Tried agent.name (path_of client) (outcome-filters rows fs same agent client i)) (turn_order rows)) else []

turns_on_all-filters : (rows : Rows) (fs : List FilterRow) (agents : List AgentRow) → HoldTheSame fs rows.filters rows.clock
    → turns_on_all (with_filters rows fs) agents ≡ turns_on_all rows agents
turns_on_all-filters rows fs [] same = refl
turns_on_all-filters rows fs (agent ∷ agents) same =
    let after : Rows = after_agent rows agent in
    let others : turns_on_all (after_agent (with_filters rows fs) agent) agents ≡ turns_on_all after agents =
    ap (λ (r : Rows). turns_on_all r agents) (after-filters rows fs agent agent.active same)
    ∙ turns_on_all-filters after fs agents (still_the_same rows after fs (kept-agent rows agent agent.active) same) in
    λ i. (each_on-filters rows fs agent same i, untouched_on-filters rows fs agent same i) ∷ others i

pub live_turns_are_reported : LiveTurnsAreReported
unfolding turns_by_agent
live_turns_are_reported rows at =
    turns_on_all-filters (at_timestamp rows at) (in_force rows.clock rows.filters) rows.agents (live_filters rows at)
