-- The outcomes of each client, counted over the agents.
use Rattle.std.specs.Prelude.{ℕ, ◌-◌, ◌^◌, min, Bool, true, false, not, List, [], ◌∷◌, ◌++◌, Option, length, map, filter, fold, if◌then◌else◌, codes}
use Rattle.std.specs.List.{flat_map, list_any}
use Rattle.std.specs.Option.{option_map_or}
use Rattle.serde_json.specs.Data.{Data, Members, number, unsigned, string, object, member, no_members, put}
use Rattle.serde_json.specs.Written.{compact_text}
use Rattle.drf_role.specs.Path.{Path}
use Rattle.drf_role.specs.Parts.{text_of}
use Rattle.drf_explain.specs.Each.{turns_by_agent}
use Rattle.drf_explain.specs.Explained.{suppressed_of}
use Rattle.drf_explain.specs.ExplainedText.{explained_text}
use Rattle.drf_explain.specs.declared.finding.Finding.{Finding}
use Rattle.drf_explain.specs.declared.finding.Outcome.{Outcome}
use Rattle.drf_explain.specs.declared.finding.Outcome.TheVariants.{Grant, HeldBack, OverLimit, BelowThreshold, NothingLeft, ReservedForOthers}
use Rattle.drf_rows.specs.Client.{Client, path_of}
use Rattle.drf_rows.specs.Held.{client_of, active_clients}
use Rattle.drf_rows.specs.declared.rows.ClientRow.{ClientRow}
use Rattle.drf_rows.specs.declared.rows.FrameworkRow.{FrameworkRow}
use Rattle.drf_rows.specs.Offers.{is_empty}
use Rattle.drf_rows.specs.Report.{report_of}
use Rattle.drf_rows.specs.declared.report.Report.{Report}
use Rattle.drf_rows.specs.declared.rows.Rows.{Rows}
use Rattle.drf_why.specs.Passers.{Turn, is_passed, one_more, passer_text, passers_of, with_passer, with_passers_on}
use Rattle.drf_why.specs.Pick.{is_granted, is_inactive, is_nothing_free, outcome_on}
use Rattle.drf_why.specs.declared.tally.Tally.{Tally}

-- ---- the outcome of a client on an agent

abbrev pub is_held_back : Outcome → Bool
is_held_back (Grant bundle) = false
is_held_back (HeldBack until) = true
is_held_back (OverLimit role) = false
is_held_back BelowThreshold = false
is_held_back NothingLeft = false
is_held_back ReservedForOthers = false

abbrev pub is_over_limit : Outcome → Bool
is_over_limit (Grant bundle) = false
is_over_limit (HeldBack until) = false
is_over_limit (OverLimit role) = true
is_over_limit BelowThreshold = false
is_over_limit NothingLeft = false
is_over_limit ReservedForOthers = false

abbrev pub is_below_threshold : Outcome → Bool
is_below_threshold (Grant bundle) = false
is_below_threshold (HeldBack until) = false
is_below_threshold (OverLimit role) = false
is_below_threshold BelowThreshold = true
is_below_threshold NothingLeft = false
is_below_threshold ReservedForOthers = false

abbrev pub is_nothing_left : Outcome → Bool
is_nothing_left (Grant bundle) = false
is_nothing_left (HeldBack until) = false
is_nothing_left (OverLimit role) = false
is_nothing_left BelowThreshold = false
is_nothing_left NothingLeft = true
is_nothing_left ReservedForOthers = false

abbrev pub is_reserved : Outcome → Bool
is_reserved (Grant bundle) = false
is_reserved (HeldBack until) = false
is_reserved (OverLimit role) = false
is_reserved BelowThreshold = false
is_reserved NothingLeft = false
is_reserved ReservedForOthers = true

-- the client is tried in a turn, and its outcome passes a test
abbrev pub comes_to : (Outcome → Bool) → Path → Turn → Bool
comes_to test path turn = option_map_or test (outcome_on path turn.0) false

-- a finding of the turn passes a test
abbrev pub tells_of : (Finding → Bool) → Turn → Bool
tells_of test turn = list_any test turn.0

-- ---- over agents

-- the number of agents whose turns pass a test, but at most 2^64 - 1
abbrev pub agents_where : (Turn → Bool) → List Turn → ℕ
agents_where test turns = min (length (filter test turns)) (2 ^ 64 - 1)

abbrev pub tally_of : List Turn → Path → Tally
tally_of turns path = record {
  client = path;
  granted = agents_where (comes_to is_granted path) turns;
  held_back = agents_where (comes_to is_held_back path) turns;
  over_limit = agents_where (comes_to is_over_limit path) turns;
  below_threshold = agents_where (comes_to is_below_threshold path) turns;
  nothing_left = agents_where (comes_to is_nothing_left path) turns;
  reserved = agents_where (comes_to is_reserved path) turns;
  inactive = agents_where (tells_of is_inactive) turns;
  nothing_free = agents_where (tells_of is_nothing_free) turns;
  passed = agents_where (is_passed path) turns;
  passers = passers_of turns path;
}

-- the tallies of all clients that are not suppressed, in order of registration
abbrev pub tallies_of : Rows → List Turn → List Tally
tallies_of rows turns = map (λ c. tally_of turns (path_of c)) (active_clients rows)

-- the clients of a framework that are not suppressed
abbrev pub active_one : FrameworkRow → ClientRow → List Client
active_one f c = if not c.suppressed then client_of f c ∷ [] else []

abbrev pub active_in : FrameworkRow → List Client
active_in f = map (client_of f) (filter (λ c. not c.suppressed) f.clients)

-- ---- one agent more

-- a number plus 1 if a test holds, but at most 2^64 - 1
abbrev pub more_if : Bool → ℕ → ℕ
more_if test count = if test then one_more count else count

-- counts the outcome of the client
abbrev pub with_outcome : Option Outcome → Tally → Tally
with_outcome outcome t = record t {
  granted = more_if (option_map_or is_granted outcome false) t.granted;
  held_back = more_if (option_map_or is_held_back outcome false) t.held_back;
  over_limit = more_if (option_map_or is_over_limit outcome false) t.over_limit;
  below_threshold = more_if (option_map_or is_below_threshold outcome false) t.below_threshold;
  nothing_left = more_if (option_map_or is_nothing_left outcome false) t.nothing_left;
  reserved = more_if (option_map_or is_reserved outcome false) t.reserved;
}

-- counts the clients that pass over the client
abbrev pub with_passed : List Path → Tally → Tally
with_passed passers t = record t { passed = more_if (not (is_empty passers)) t.passed; passers = fold with_passer t.passers passers }

-- counts a turn
abbrev pub with_turn : Turn → Tally → Tally
with_turn turn t = record (with_outcome (outcome_on t.client turn.0) t) {
  inactive = more_if (tells_of is_inactive turn) t.inactive;
  nothing_free = more_if (tells_of is_nothing_free turn) t.nothing_free;
  passed = more_if (is_passed t.client turn) t.passed;
  passers = with_passers_on t.client t.passers turn;
}

-- ---- the lines

-- compact JSON, with keys in byte order
abbrev pub tally_value : Tally → Data
tally_value t = object (
    member (codes "BelowThreshold") (number (unsigned t.below_threshold))
    (member (codes "Grant") (number (unsigned t.granted))
    (member (codes "HeldBack") (number (unsigned t.held_back))
    (member (codes "Inactive") (number (unsigned t.inactive))
    (member (codes "NothingFree") (number (unsigned t.nothing_free))
    (member (codes "NothingLeft") (number (unsigned t.nothing_left))
    (member (codes "OverLimit") (number (unsigned t.over_limit))
    (member (codes "ReservedForOthers") (number (unsigned t.reserved))
    (member (codes "client") (string (text_of t.client))
    (member (codes "passed") (number (unsigned t.passed))
    no_members))))))))))

-- adds the counts to the members of an object
abbrev pub with_counts : Tally → Members → Members
with_counts t members =
    put (codes "passed") (number (unsigned t.passed))
    (put (codes "ReservedForOthers") (number (unsigned t.reserved))
    (put (codes "OverLimit") (number (unsigned t.over_limit))
    (put (codes "NothingLeft") (number (unsigned t.nothing_left))
    (put (codes "NothingFree") (number (unsigned t.nothing_free))
    (put (codes "Inactive") (number (unsigned t.inactive))
    (put (codes "HeldBack") (number (unsigned t.held_back))
    (put (codes "Grant") (number (unsigned t.granted))
    (put (codes "BelowThreshold") (number (unsigned t.below_threshold)) members))))))))

unfoldable pub tally_text : Tally → List ℕ
tally_text t = compact_text (tally_value t) ++ 10 ∷ []

-- the line of a client, and a line for each client that passes over it, with the shares of the report
abbrev pub tally_lines : Report → Tally → List ℕ
tally_lines report t = tally_text t ++ flat_map (passer_text report t.client) t.passers

-- The summary of the cycle at a timestamp: the suppressed clients, and then the other clients with those that pass over them. The shares
-- are those before the cycle.
abbrev pub summary_text : Rows → ℕ → List ℕ
summary_text rows at =
    explained_text (suppressed_of rows) ++ flat_map (tally_lines (report_of rows)) (tallies_of rows (turns_by_agent rows at))
