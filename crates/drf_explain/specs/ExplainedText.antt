-- The lines of an explanation: compact JSON (RFC 8259) with keys in byte order, and a line feed.
use Rattle.std.specs.Prelude.{ℕ, List, [], ◌∷◌, ◌++◌, codes}
use Rattle.std.specs.List.{flat_map}
use Rattle.serde_json.specs.Data.{Data, number, unsigned, string, object, member, no_members}
use Rattle.serde_json.specs.Written.{compact_text}
use Rattle.drf_role.specs.Text.{Text}
use Rattle.drf_role.specs.Parts.{text_of}
use Rattle.drf_role.specs.Path.{Path}
use Rattle.drf_bundle.specs.declared.resource.Resource.{Resource}
use Rattle.drf_text.specs.Written.{bundle_text}
use Rattle.drf_explain.specs.declared.finding.Finding.{Finding}
use Rattle.drf_explain.specs.declared.finding.Finding.TheVariants.{Suppressed, Inactive, NothingFree, Tried, Left}
use Rattle.drf_explain.specs.declared.finding.Outcome.{Outcome}
use Rattle.drf_explain.specs.declared.finding.Outcome.TheVariants.{Grant, HeldBack, OverLimit, BelowThreshold, NothingLeft, ReservedForOthers}

-- why a client gets nothing on an agent
abbrev pub tried_why : Text → Path → Text → Data
tried_why agent client why = object (
    member (codes "agent") (string agent)
    (member (codes "client") (string (text_of client))
    (member (codes "why") (string why)
    no_members)))

abbrev pub grant_value : Text → Path → List Resource → Data
grant_value agent client bundle = object (
    member (codes "agent") (string agent)
    (member (codes "client") (string (text_of client))
    (member (codes "grant") (string (bundle_text bundle))
    no_members)))

abbrev pub held_back_value : Text → Path → ℕ → Data
held_back_value agent client until = object (
    member (codes "agent") (string agent)
    (member (codes "client") (string (text_of client))
    (member (codes "until") (number (unsigned until))
    (member (codes "why") (string (codes "HeldBack"))
    no_members))))

abbrev pub over_limit_value : Text → Path → Path → Data
over_limit_value agent client role = object (
    member (codes "agent") (string agent)
    (member (codes "client") (string (text_of client))
    (member (codes "role") (string (text_of role))
    (member (codes "why") (string (codes "OverLimit"))
    no_members))))

abbrev pub tried_value : Text → Path → Outcome → Data
tried_value agent client (Grant bundle) = grant_value agent client bundle
tried_value agent client (HeldBack until) = held_back_value agent client until
tried_value agent client (OverLimit role) = over_limit_value agent client role
tried_value agent client BelowThreshold = tried_why agent client (codes "BelowThreshold")
tried_value agent client NothingLeft = tried_why agent client (codes "NothingLeft")
tried_value agent client ReservedForOthers = tried_why agent client (codes "ReservedForOthers")

abbrev pub suppressed_value : Path → Data
suppressed_value client =
    object (member (codes "client") (string (text_of client)) (member (codes "why") (string (codes "Suppressed")) no_members))

abbrev pub agent_value : Text → Text → Data
agent_value agent why =
    object (member (codes "agent") (string agent) (member (codes "why") (string why) no_members))

abbrev pub left_value : Text → List Resource → ℕ → Data
left_value agent left clients = object (
    member (codes "agent") (string agent)
    (member (codes "clients") (number (unsigned clients))
    (member (codes "left") (string (bundle_text left))
    no_members)))

abbrev pub finding_value : Finding → Data
finding_value (Suppressed client) = suppressed_value client
finding_value (Inactive agent) = agent_value agent (codes "Inactive")
finding_value (NothingFree agent) = agent_value agent (codes "NothingFree")
finding_value (Tried agent client outcome) = tried_value agent client outcome
finding_value (Left agent left clients) = left_value agent left clients

-- the line of a finding
unfoldable pub finding_text : Finding → List ℕ
finding_text finding = compact_text (finding_value finding) ++ 10 ∷ []

-- the lines of some findings
abbrev pub explained_text : List Finding → List ℕ
explained_text findings = flat_map finding_text findings
