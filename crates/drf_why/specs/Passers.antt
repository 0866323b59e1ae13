-- Which clients pass over a client on an agent: it is granted nothing there, and they, before it, are granted a part of what it would be
-- granted if it were tried first.
use Rattle.std.specs.Prelude.{ℕ, suc, ◌+◌, ◌-◌, ◌^◌, min, Bool, not, ◌&&◌, List, [], ◌∷◌, ◌++◌, Option, fold, take, find, if◌then◌else◌, nat_lt, false, codes}
use Rattle.std.specs.List.{flat_map, list_any}
use Rattle.std.specs.Option.{option_map_or}
use Rattle.serde_json.specs.Data.{Data, number, unsigned, string, object, member, no_members}
use Rattle.serde_json.specs.Written.{compact_text}
use Rattle.drf_role.specs.Text.{Text, same_text}
use Rattle.drf_role.specs.Path.{Path, same_path}
use Rattle.drf_role.specs.Parts.{text_of}
use Rattle.drf_bundle.specs.Bundle.{Key, key_of, value_at}
use Rattle.drf_bundle.specs.Value.{amount_in}
use Rattle.drf_bundle.specs.declared.resource.Resource.{Resource}
use Rattle.drf_rows.specs.Offers.{is_empty}
use Rattle.drf_rows.specs.declared.report.NodeLine.{NodeLine}
use Rattle.drf_rows.specs.declared.report.Report.{Report}
use Rattle.drf_explain.specs.declared.finding.Finding.{Finding}
use Rattle.drf_explain.specs.declared.finding.Finding.TheVariants.{Suppressed, Inactive, NothingFree, Tried, Left}
use Rattle.drf_explain.specs.declared.finding.Outcome.{Outcome}
use Rattle.drf_explain.specs.declared.finding.Outcome.TheVariants.{Grant, HeldBack, OverLimit, BelowThreshold, NothingLeft, ReservedForOthers}
use Rattle.drf_lines.specs.ReportLine.{fraction_text}
use Rattle.drf_why.specs.Pick.{earlier_on, is_granted, outcome_in, own_on}

-- ---- what a grant takes from a bundle

-- how much of a bundle there is of a name and a reservation
abbrev pub amount_under : List Resource → Key → ℕ
amount_under bundle key = option_map_or amount_in (value_at bundle key) 0

-- the resource is not empty, and the bundle has some of the same name and reservation
abbrev pub is_in_both : List Resource → Resource → Bool
is_in_both bundle r = nat_lt 0 (amount_in r.value) && nat_lt 0 (amount_under bundle (key_of r))

-- the first bundle takes a part of the second: both have some of the same name and reservation
abbrev pub takes_of : List Resource → List Resource → Bool
takes_of taken bundle = list_any (is_in_both bundle) taken

-- ---- on an agent

-- the findings of an agent's turn: the outcome of each client when it is tried, and its outcome if it were tried first
abbrev pub Turn : Type 0
Turn = List Finding × List Finding

-- what an outcome grants
abbrev pub bundle_of : Outcome → List Resource
bundle_of (Grant bundle) = bundle
bundle_of (HeldBack until) = []
bundle_of (OverLimit role) = []
bundle_of BelowThreshold = []
bundle_of NothingLeft = []
bundle_of ReservedForOthers = []

-- what the first of some findings grants
abbrev pub bundle_in : List Finding → List Resource
bundle_in findings = option_map_or bundle_of (outcome_in findings) []

-- the first of some findings is a grant
abbrev pub begins_with_grant : List Finding → Bool
begins_with_grant findings = option_map_or is_granted (outcome_in findings) false

-- the first finding of a client is a grant
abbrev pub gets_something : Path → List Finding → Bool
gets_something path findings = begins_with_grant (own_on path findings)

-- what the client would be granted if it were tried first
abbrev pub first_bundle : Path → Turn → List Resource
first_bundle path turn = bundle_in (own_on path turn.1)

-- the client of a finding that grants a part of the bundle
abbrev pub taker_in : List Resource → Finding → List Path
taker_in bundle (Suppressed client) = []
taker_in bundle (Inactive agent) = []
taker_in bundle (NothingFree agent) = []
taker_in bundle (Tried agent client outcome) = if takes_of (bundle_of outcome) bundle then client ∷ [] else []
taker_in bundle (Left agent left clients) = []

-- the clients that are granted a part of a bundle by earlier findings, unless the client's own finding is a grant
abbrev pub passers_by : List Finding → List Finding → List Resource → List Path
passers_by own earlier bundle = if begins_with_grant own then [] else flat_map (taker_in bundle) earlier

-- the clients that pass over a client on an agent
abbrev pub passers_on : Path → Turn → List Path
passers_on path turn = passers_by (own_on path turn.0) (earlier_on path turn.0) (first_bundle path turn)

-- some client passes over it
abbrev pub is_passed : Path → Turn → Bool
is_passed path turn = not (is_empty (passers_on path turn))

-- ---- over agents

-- a client that passes over another one, and on how many agents it does
pub record Passer : Type 0 where
  pub client : Path
  pub agents : ℕ

abbrev pub passer_of : Path × ℕ → Passer
passer_of entry = record { client = entry.0; agents = entry.1 }

abbrev pub is_of : Path → Passer → Bool
is_of path p = same_path path p.client

-- a number plus 1, but at most 2^64 - 1
abbrev pub one_more : ℕ → ℕ
one_more count = min (count + 1) (2 ^ 64 - 1)

-- one agent more, or 1 if there were none
abbrev pub next_agents : Option ℕ → ℕ
next_agents agents = option_map_or one_more agents 1

-- counts one agent more for a client; a new client is added at the end
abbrev pub with_passer : List Passer → Path → List Passer
with_passer [] path = record { client = path; agents = 1 } ∷ []
with_passer (p ∷ ps) path =
    if is_of path p then record { client = p.client; agents = one_more p.agents } ∷ ps else p ∷ with_passer ps path

-- counts the clients that pass over a client on one agent more
abbrev pub with_passers_on : Path → List Passer → Turn → List Passer
with_passers_on path passers turn = fold with_passer passers (passers_on path turn)

-- the clients that pass over a client, each once, in the order in which they first do
abbrev pub passers_of : List Turn → Path → List Passer
passers_of turns path = fold (with_passers_on path) [] turns

-- ---- the shares that are compared

-- how many parts two paths have in common at their beginning
abbrev pub shared_parts : Path → Path → ℕ
shared_parts [] others = 0
shared_parts (part ∷ parts) [] = 0
shared_parts (part ∷ parts) (other ∷ others) = if same_text part other then suc (shared_parts parts others) else 0

-- the first node of the path that is not a node of the other path; these two nodes decide which client comes first
abbrev pub parting : Path → Path → Path
parting path other = take (suc (shared_parts path other)) path

abbrev pub is_line_of : Path → NodeLine → Bool
is_line_of node line = same_text (text_of line.path) (text_of node)

-- the weighted share of a node in a report
abbrev pub weighted_in : Report → Path → Text
weighted_in report node = option_map_or (λ line. fraction_text line.weighted) (find (is_line_of node) report.nodes) []

-- ---- the lines

-- compact JSON, with keys in byte order
abbrev pub passer_value : Report → Path → Passer → Data
passer_value report path p = object (
    member (codes "agents") (number (unsigned p.agents))
    (member (codes "client") (string (text_of path))
    (member (codes "own") (string (weighted_in report (parting path p.client)))
    (member (codes "passed_by") (string (text_of p.client))
    (member (codes "weighted") (string (weighted_in report (parting p.client path)))
    no_members)))))

unfoldable pub passer_text : Report → Path → Passer → List ℕ
passer_text report path p = compact_text (passer_value report path p) ++ 10 ∷ []
