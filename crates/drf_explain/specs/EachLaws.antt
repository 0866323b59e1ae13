-- Each client of a turn is listed once, with its outcome in the rows at that point of the cycle. The shorter explanation is this one, cut off
-- where too little is left; no client after the cut is granted anything.
use Rattle.std.specs.Prelude.{◌≡◌, ◌≢◌, ℕ, suc, Bool, true, false, not, ◌&&◌, List, [], ◌∷◌, ◌++◌, length, map, filter, slice_get, Some}
use Rattle.std.specs.List.{flat_map, list_all, AllZip}
use Rattle.std.proofs.Common.{refl, sym, append-nil}
use Rattle.drf_role.specs.Text.{Text}
use Rattle.drf_role.specs.Path.{Path}
use Rattle.drf_bundle.specs.declared.resource.Resource.{Resource}
use Rattle.drf_rows.specs.Client.{Client, path_of}
use Rattle.drf_rows.specs.Cycle.{free_of, is_allocatable, all_tried, turn_order, turn, turns, at_timestamp, cycle}
use Rattle.drf_rows.specs.Offers.{is_empty}
use Rattle.drf_rows.specs.Step.{live_rows, new_offers}
use Rattle.drf_rows.specs.declared.rows.AgentRow.{AgentRow}
use Rattle.drf_rows.specs.declared.rows.Rows.{Rows}
use Rattle.drf_explain.specs.Explained.{outcome, suppressed_of, explained}
use Rattle.drf_explain.specs.Each.{reported_here, reported_of_each, each_on, each_by_agent, each_reported, untouched_on, turns_by_agent}
use Rattle.drf_explain.specs.ExplainedLaws.{grants_in, offered}
use Rattle.drf_explain.specs.declared.finding.Finding.{Finding}
use Rattle.drf_explain.specs.declared.finding.Finding.TheVariants.{Suppressed, Inactive, NothingFree, Tried, Left}
use Rattle.drf_explain.specs.declared.finding.Outcome.{Outcome}
use Rattle.drf_explain.specs.declared.finding.Outcome.TheVariants.{Grant, HeldBack, OverLimit, BelowThreshold, NothingLeft, ReservedForOthers}

-- ---- statements

-- the client that a finding tries
abbrev pub tried_in : Finding → List Path
tried_in (Tried agent client outcome) = client ∷ []
tried_in (Suppressed client) = []
tried_in (Inactive agent) = []
tried_in (NothingFree agent) = []
tried_in (Left agent left clients) = []

-- the agent is active, and something is free on it
pub record IsOpen (rows : Rows) (agent : AgentRow) : Type 0 where
  pub active : agent.active ≡ true
  pub some : is_empty (free_of rows agent) ≡ false

-- on an open agent, exactly the clients of the turn are listed, each once, in order
abbrev pub EachIsReportedOnce : Type 0
EachIsReportedOnce = (rows : Rows) (agent : AgentRow) → IsOpen rows agent → flat_map tried_in (each_on rows agent) ≡ map path_of (turn_order rows)

-- the outcome of each client is that in the rows at its point of the cycle: after the turns of the agents before, and after the clients before
pub record IsReportedAtItsTimestamp (rows : Rows) (at : ℕ) (before : List AgentRow) (agent : AgentRow) (start : Rows) : Type 0 where
  pub turn : slice_get (each_by_agent rows at) (length before) ≡ Some (each_on start agent)
  pub client : IsOpen start agent → (earlier later : List Client) (client : Client) → turn_order start ≡ earlier ++ client ∷ later
      → slice_get (each_on start agent) (length earlier) ≡ Some (Tried agent.name (path_of client) (outcome (all_tried start agent earlier) agent client))

abbrev pub EachIsReportedAtItsTimestamp : Type 0
EachIsReportedAtItsTimestamp =
    (rows : Rows) (at : ℕ) (before after : List AgentRow) (agent : AgentRow) → rows.agents ≡ before ++ agent ∷ after
    → IsReportedAtItsTimestamp rows at before agent (turns (at_timestamp rows at) (filter (λ a. a.active) before))

-- the first part of `turns_by_agent` is the complete explanation
abbrev pub TurnsAreReported : Type 0
TurnsAreReported = (rows : Rows) (at : ℕ) → map (λ turn. turn.0) (turns_by_agent rows at) ≡ each_by_agent rows at

-- its second part is the outcome of each client of the turn, in order, after the turns of the agents before and before any client is tried; it
-- is empty if no client is tried
pub record IsUntouchedAt (rows : Rows) (at : ℕ) (before : List AgentRow) (agent : AgentRow) (start : Rows) : Type 0 where
  pub turn : slice_get (turns_by_agent rows at) (length before) ≡ Some (each_on start agent, untouched_on start agent)
  pub clients : IsOpen start agent → untouched_on start agent ≡ map (reported_here start agent) (turn_order start)
  pub nobody : (agent.active && not (is_empty (free_of start agent))) ≡ false → untouched_on start agent ≡ []

abbrev pub EachIsUntouched : Type 0
EachIsUntouched =
    (rows : Rows) (at : ℕ) (before after : List AgentRow) (agent : AgentRow) → rows.agents ≡ before ++ agent ∷ after
    → IsUntouchedAt rows at before agent (turns (at_timestamp rows at) (filter (λ a. a.active) before))

-- if no client before a client is granted anything on an agent, its two outcomes are the same
abbrev pub UntouchedIsReported : Type 0
UntouchedIsReported =
    (rows : Rows) (agent : AgentRow) (earlier : List Client) (client : Client) → flat_map grants_in (reported_of_each rows agent earlier) ≡ []
    → reported_here (all_tried rows agent earlier) agent client ≡ reported_here rows agent client

-- an outcome that is possible where too little is left for an offer
abbrev pub is_late : Outcome → Bool
is_late (Grant bundle) = false
is_late (HeldBack until) = false
is_late (OverLimit role) = false
is_late BelowThreshold = true
is_late NothingLeft = true
is_late ReservedForOthers = true

-- a finding with such an outcome
abbrev pub is_reported_late : Finding → Bool
is_reported_late (Tried agent client outcome) = is_late outcome
is_reported_late (Suppressed client) = false
is_reported_late (Inactive agent) = false
is_reported_late (NothingFree agent) = false
is_reported_late (Left agent left clients) = false

-- the line that counts findings
abbrev pub counted : Text → List Resource → List Finding → List Finding
counted agent left [] = []
counted agent left (finding ∷ findings) = Left agent left (suc (length findings)) ∷ []

-- the shorter list of findings about an agent is the longer one up to where too little is left for an offer; the clients after that are
-- only counted
pub record IsCutTo (more less : List Finding) : Type 0 where
  pub before : List Finding
  pub behind : List Finding
  pub agent : Text
  pub left : List Resource
  pub longer : more ≡ before ++ behind
  pub shorter : less ≡ before ++ counted agent left behind
  pub little : behind ≢ [] → is_allocatable left ≡ false
  pub late : list_all is_reported_late behind ≡ true

-- the shorter explanation is the complete one, cut off in this way on each agent
pub record IsCutOnEach (rows : Rows) (at : ℕ) : Type 0 where
  pub shorter : List (List Finding)
  pub whole : explained rows at ≡ suppressed_of rows ++ flat_map (λ reported. reported) shorter
  pub cut : AllZip IsCutTo (each_by_agent rows at) shorter

abbrev pub ExplainedIsCut : Type 0
ExplainedIsCut = (rows : Rows) (at : ℕ) → IsCutOnEach rows at

-- the grants of the explanation are the cycle's offers, in order
abbrev pub EachGrantIsAnOffer : Type 0
EachGrantIsAnOffer = (rows : Rows) (at : ℕ) → flat_map grants_in (each_reported rows at) ≡ map offered (new_offers rows (cycle rows at))

-- expired filters do not change the explanation
abbrev pub LiveRowsAreReported : Type 0
LiveRowsAreReported = (rows : Rows) (at : ℕ) → each_by_agent (live_rows rows) at ≡ each_by_agent rows at

abbrev pub LiveTurnsAreReported : Type 0
LiveTurnsAreReported = (rows : Rows) (at : ℕ) → turns_by_agent (live_rows rows) at ≡ turns_by_agent rows at

pub whole : (reported : List Finding) → IsCutTo reported reported
whole reported = record {
  before = reported;
  behind = [];
  agent = [];
  left = [];
  longer = sym (append-nil reported);
  shorter = sym (append-nil reported);
  little = λ some. absurd (some refl);
  late = refl;
}
