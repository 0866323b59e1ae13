-- Statements about orders, turns, steps, expired filters and reports.
use Rattle.std.specs.Prelude.{◌≡◌, ℕ, ◌+◌, ◌≤◌, Bool, true, false, not, ◌&&◌, ◌||◌, List, [], ◌∷◌, ◌++◌, map, length, sum_by, Some, None, IsTrue, Contains, nat_lt, nat_le}
use Rattle.std.specs.List.{list_all, list_any, AllByRecursion}
use Rattle.std.specs.List.Sorted.{IsPermutation}
use Rattle.std.specs.Ordering.{is_lt}
use Rattle.drf_role.specs.Text.{Text}
use Rattle.drf_role.specs.Path.{Path, same_path, begins_with}
use Rattle.drf_bundle.specs.Quantities.{amount_of, HasNoZeros}
use Rattle.drf_bundle.specs.Bundle.{IsBundle, quantities_of}
use Rattle.drf_rows.specs.LimitNumbers.{LimitNumbers, ceilings}
use Rattle.drf_rows.specs.Client.{Client, path_of}
use Rattle.drf_rows.specs.Holdings.{holdings_of, AreBundles}
use Rattle.drf_rows.specs.Held.{held_by, count_of, clients_of, standing_of}
use Rattle.drf_rows.specs.Weights.{are_weights}
use Rattle.drf_rows.specs.Consistent.{IsAgent}
use Rattle.drf_rows.specs.Report.{path_cmp, report_of}
use Rattle.drf_rows.specs.Share.{Fraction, IsLowest, Standing, share_of, weighted_share_of, stands_before, is_serving_order}
use Rattle.drf_rows.specs.Cycle.{free_of, is_allocatable, grant, new_offer, with_offer, all_tried, serving_order}
use Rattle.drf_rows.specs.Offers.{is_empty}
use Rattle.drf_rows.specs.Refusal.{refusal_number}
use Rattle.drf_rows.specs.Step.{live_rows, cases_of, refusal_of, effect, answer, rows_after, reply_to, rows_after_all, replies_to}
use Rattle.drf_rows.specs.declared.rows.AgentRow.{AgentRow}
use Rattle.drf_rows.specs.declared.rows.Rows.{Rows}
use Rattle.drf_rows.specs.declared.event.Event.{Event}
use Rattle.drf_rows.specs.declared.report.NodeLine.{NodeLine}
use Rattle.drf_rows.specs.declared.reply.Refusal.{Refusal}
use Rattle.drf_rows.specs.declared.reply.Reply.TheVariants.{Refused}

-- no path comes before itself
abbrev pub NoneBeforeItself : Type 0
NoneBeforeItself = (s : Standing) (path : Path) → stands_before s path path ≡ false

-- if one path comes before another, the other does not come before it
abbrev pub AtMostOneBefore : Type 0
AtMostOneBefore =
    (s : Standing) (a b : Path) → stands_before s a b ≡ true → stands_before s b a ≡ false

-- if the paths of some clients are in a serving order, a turn tries the clients in this order
abbrev pub OneServingOrder : Type 0
OneServingOrder =
    (s : Standing) (clients : List Client) (paths : List Path)
    → IsPermutation (map path_of clients) paths
    → IsTrue (is_serving_order s paths)
    → map path_of (serving_order s (length clients) clients) ≡ paths

-- if too little is free on an agent, its turn grants nothing
abbrev pub TooLittleIsNotGranted : Type 0
TooLittleIsNotGranted =
    (rows : Rows) (agent : AgentRow) (clients : List Client)
    → is_allocatable (free_of rows agent) ≡ false
    → all_tried rows agent clients ≡ rows

-- if the first client is granted everything that is free, it is offered that, and the others are offered nothing
abbrev pub FirstIsGrantedAll : Type 0
FirstIsGrantedAll =
    (rows : Rows) (agent : AgentRow) (first : Client) (others : List Client)
    → grant rows agent first ≡ Some (free_of rows agent)
    → IsBundle agent.total
    → AreBundles (holdings_of rows)
    → all_tried rows agent (first ∷ others) ≡ with_offer rows (new_offer rows agent first (free_of rows agent))

-- the numbers rise strictly
abbrev pub is_rising : List ℕ → Bool
is_rising [] = true
is_rising (n ∷ ns) = list_all (nat_lt n) ns && is_rising ns

-- the refusal cases of an event are in order of their numbers
abbrev pub CasesRise : Type 0
CasesRise =
    (limits : LimitNumbers) (rows : Rows) (event : Event)
    → is_rising (map (λ c. refusal_number c.1) (cases_of limits rows event)) ≡ true

-- an event is refused with a case that holds, and with the least number of these; if no case holds, it is not refused
abbrev pub LeastIsReported : Type 0
LeastIsReported =
    (limits : LimitNumbers) (rows : Rows) (event : Event)
    → let cases : List (Bool × Refusal) = cases_of limits rows event in
    ((refusal : Refusal) → refusal_of limits rows event ≡ Some refusal
    → Contains cases (true, refusal)
    × (list_all (λ c. not c.0 || nat_le (refusal_number refusal) (refusal_number c.1)) cases ≡ true))
    × (refusal_of limits rows event ≡ None → list_any (λ c. c.0) cases ≡ false)

-- the reply to a refused event is its refusal, and the state stays the same
abbrev pub RefusedChangesNothing : Type 0
RefusedChangesNothing =
    (limits : LimitNumbers) (rows : Rows) (event : Event) (refusal : Refusal)
    → refusal_of limits rows event ≡ Some refusal
    → (reply_to limits rows event ≡ Refused refusal) × (rows_after limits rows event ≡ rows)

-- an event that is not refused has its effect, and is counted
abbrev pub AcceptedIsCounted : Type 0
AcceptedIsCounted =
    (limits : LimitNumbers) (rows : Rows) (event : Event)
    → refusal_of limits rows event ≡ None
    → (reply_to limits rows event ≡ answer rows (effect rows event) event)
    × (rows_after limits rows event ≡ record (effect rows event) { events = rows.events + 1 })

-- a run of two lists of events is the run of the first list, followed by a run of the second
abbrev pub RunsGoOn : Type 0
RunsGoOn =
    (limits : LimitNumbers) (rows : Rows) (first second : List Event)
    → (replies_to limits rows (first ++ second)
    ≡ replies_to limits rows first ++ replies_to limits (rows_after_all limits rows first) second)
    × (rows_after_all limits rows (first ++ second) ≡ rows_after_all limits (rows_after_all limits rows first) second)

-- expired filters change no reply
abbrev pub LiveRowsReply : Type 0
LiveRowsReply =
    (limits : LimitNumbers) (rows : Rows) (event : Event)
    → reply_to limits (live_rows rows) event ≡ reply_to limits rows event

-- expired filters do not change the current state after an event
abbrev pub LiveRowsGoOn : Type 0
LiveRowsGoOn =
    (limits : LimitNumbers) (rows : Rows) (event : Event)
    → live_rows (rows_after limits (live_rows rows) event) ≡ live_rows (rows_after limits rows event)

-- the same for a run
abbrev pub LiveRowsRun : Type 0
LiveRowsRun =
    (limits : LimitNumbers) (rows : Rows) (events : List Event)
    → (replies_to limits (live_rows rows) events ≡ replies_to limits rows events)
    × (live_rows (rows_after_all limits (live_rows rows) events) ≡ live_rows (rows_after_all limits rows events))

-- each line of a report has the amount of each scalar that the clients of its node hold
abbrev pub HeldIsReported : Type 0
HeldIsReported =
    (rows : Rows)
    → AreBundles (holdings_of rows)
    → AllByRecursion (λ line. (label : Text) → amount_of line.held label ≡ held_by rows line.path label) (report_of rows).nodes

-- each line of a report has the number of offers that the clients of its node received
abbrev pub CountIsReported : Type 0
CountIsReported = (rows : Rows) → AllByRecursion (λ line. line.count ≡ count_of rows line.path) (report_of rows).nodes

-- the total in a report has for each scalar the sum over all agents
abbrev pub TotalIsReported : Type 0
TotalIsReported =
    (rows : Rows) (label : Text)
    → AllByRecursion IsAgent rows.agents
    → amount_of (report_of rows).total label ≡ sum_by (λ agent. amount_of (quantities_of agent.total) label) rows.agents

-- the amounts in a report are greater than 0, and in order of their labels without repetitions; a scalar that is not
-- named has the amount 0
abbrev pub AmountsAreAboveZero : Type 0
AmountsAreAboveZero =
    (rows : Rows)
    → HasNoZeros (report_of rows).total × AllByRecursion (λ line. HasNoZeros line.held) (report_of rows).nodes

-- a pair of numbers as a fraction
abbrev pub reported_as : ℕ × ℕ → Fraction
reported_as terms = record { part = terms.0; whole = terms.1 }

-- the line has the share and the weighted share of its node in lowest terms
pub record ReportsLowest (rows : Rows) (line : NodeLine) : Type 0 where
  pub share : IsLowest (share_of (standing_of rows) line.path) (reported_as line.share)
  pub weighted : IsLowest (weighted_share_of (standing_of rows) line.path) (reported_as line.weighted)

-- this is so for each line of a report
abbrev pub SharesAreLowest : Type 0
SharesAreLowest =
    (rows : Rows)
    → AllByRecursion IsAgent rows.agents
    → length rows.agents ≤ ceilings.agents
    → IsTrue (are_weights rows.weights)
    → AllByRecursion (ReportsLowest rows) (report_of rows).nodes

-- the paths rise strictly
abbrev pub are_in_order : List Path → Bool
are_in_order [] = true
are_in_order (path ∷ paths) = list_all (λ p. is_lt (path_cmp path p)) paths && are_in_order paths

-- the nodes of a report
abbrev pub paths_reported : Rows → List Path
paths_reported rows = map (λ line. line.path) (report_of rows).nodes

-- the nodes of a report are in order of their paths
abbrev pub NodesRise : Type 0
NodesRise = (rows : Rows) → are_in_order (paths_reported rows) ≡ true

-- the nodes of a report are the non-empty prefixes of the paths of registered clients
abbrev pub NodesBeginPaths : Type 0
NodesBeginPaths =
    (rows : Rows) (node : Path)
    → list_any (same_path node) (paths_reported rows)
    ≡ (not (is_empty node) && list_any (λ c. begins_with (path_of c) node) (clients_of rows))
