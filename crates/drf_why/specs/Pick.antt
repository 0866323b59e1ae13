-- The findings that are selected for one agent or one client.
use Rattle.std.specs.Prelude.{ℕ, Bool, true, false, ◌||◌, List, [], ◌∷◌, ◌++◌, Option, Some, None, filter, take, drop}
use Rattle.std.specs.List.{flat_map, position}
use Rattle.std.specs.Option.{option_map_or}
use Rattle.drf_role.specs.Text.{Text, same_text}
use Rattle.drf_role.specs.Path.{Path, same_path}
use Rattle.drf_rows.specs.declared.rows.Rows.{Rows}
use Rattle.drf_explain.specs.Each.{each_by_agent}
use Rattle.drf_explain.specs.Explained.{suppressed_of}
use Rattle.drf_explain.specs.declared.finding.Finding.{Finding}
use Rattle.drf_explain.specs.declared.finding.Finding.TheVariants.{Suppressed, Inactive, NothingFree, Tried, Left}
use Rattle.drf_explain.specs.declared.finding.Outcome.{Outcome}
use Rattle.drf_explain.specs.declared.finding.Outcome.TheVariants.{Grant, HeldBack, OverLimit, BelowThreshold, NothingLeft, ReservedForOthers}
use Rattle.drf_why.specs.declared.pick.Pick.{Pick}
use Rattle.drf_why.specs.declared.pick.Pick.TheVariants.{All, Agent, Client}

-- the finding is about the agent of this name
abbrev pub is_of_agent : Text → Finding → Bool
is_of_agent name (Suppressed client) = false
is_of_agent name (Inactive agent) = same_text agent name
is_of_agent name (NothingFree agent) = same_text agent name
is_of_agent name (Tried agent client outcome) = same_text agent name
is_of_agent name (Left agent left clients) = same_text agent name

-- the finding is about the client with this path
abbrev pub is_of_client : Path → Finding → Bool
is_of_client path (Suppressed client) = same_path client path
is_of_client path (Inactive agent) = false
is_of_client path (NothingFree agent) = false
is_of_client path (Tried agent client outcome) = same_path client path
is_of_client path (Left agent left clients) = false

abbrev pub is_granted : Outcome → Bool
is_granted (Grant bundle) = true
is_granted (HeldBack until) = false
is_granted (OverLimit role) = false
is_granted BelowThreshold = false
is_granted NothingLeft = false
is_granted ReservedForOthers = false

-- the finding is a grant
abbrev pub is_grant : Finding → Bool
is_grant (Suppressed client) = false
is_grant (Inactive agent) = false
is_grant (NothingFree agent) = false
is_grant (Tried agent client outcome) = is_granted outcome
is_grant (Left agent left clients) = false

-- the agent is inactive
abbrev pub is_inactive : Finding → Bool
is_inactive (Suppressed client) = false
is_inactive (Inactive agent) = true
is_inactive (NothingFree agent) = false
is_inactive (Tried agent client outcome) = false
is_inactive (Left agent left clients) = false

-- nothing is free on the agent
abbrev pub is_nothing_free : Finding → Bool
is_nothing_free (Suppressed client) = false
is_nothing_free (Inactive agent) = false
is_nothing_free (NothingFree agent) = true
is_nothing_free (Tried agent client outcome) = false
is_nothing_free (Left agent left clients) = false

-- no client is tried on the agent
abbrev pub bars_all : Finding → Bool
bars_all finding = is_inactive finding || is_nothing_free finding

-- the finding at an index, and the findings before it; empty if there is no index
abbrev pub own_at : List Finding → Option ℕ → List Finding
own_at findings place = option_map_or (λ p. take 1 (drop p findings)) place []

abbrev pub earlier_at : List Finding → Option ℕ → List Finding
earlier_at findings place = option_map_or (λ p. take p findings) place []

-- the first finding about a client, if there is one
abbrev pub own_on : Path → List Finding → List Finding
own_on path findings = own_at findings (position (is_of_client path) findings)

-- the findings before the first finding about a client, if there is one
abbrev pub earlier_on : Path → List Finding → List Finding
earlier_on path findings = earlier_at findings (position (is_of_client path) findings)

-- the outcome of the first of some findings, if that finding has one
abbrev pub outcome_in : List Finding → Option Outcome
outcome_in [] = None
outcome_in (Suppressed client ∷ findings) = None
outcome_in (Inactive agent ∷ findings) = None
outcome_in (NothingFree agent ∷ findings) = None
outcome_in (Tried agent client outcome ∷ findings) = Some outcome
outcome_in (Left agent left clients ∷ findings) = None

-- the outcome of a client in some findings, if it is tried
abbrev pub outcome_on : Path → List Finding → Option Outcome
outcome_on path findings = outcome_in (own_on path findings)

-- the first finding about a client, after the grants before it
abbrev pub picked_tries : Path → List Finding → List Finding
picked_tries path findings = filter is_grant (earlier_on path findings) ++ own_on path findings

-- the selected findings of one agent, or of the suppressed clients
abbrev pub picked : Pick → List Finding → List Finding
picked All findings = findings
picked (Agent name) findings = filter (is_of_agent name) findings
picked (Client path) findings = filter bars_all findings ++ picked_tries path findings

-- the selected findings of the cycle at a timestamp: the suppressed clients, and then one agent after the other
abbrev pub picked_of : Pick → Rows → ℕ → List Finding
picked_of pick rows at = flat_map (picked pick) (suppressed_of rows ∷ each_by_agent rows at)
