-- The explanation of a cycle, agent by agent, while its offers are drafts.
use Rattle.std.specs.Prelude.{◌≡◌, ℕ, ◌++◌, Bool, List, [], ◌∷◌, drop, slice_get, Some, if◌then◌else◌, nat_lt}
use Rattle.std.specs.Option.{option_map_or}
use Rattle.drf_role.specs.Text.{Text}
use Rattle.drf_role.specs.Path.{Path}
use Rattle.drf_bundle.specs.declared.resource.Resource.{Resource}
use Rattle.drf_rows.specs.Client.{Client, path_of}
use Rattle.drf_rows.specs.Cycle.{all_tried, turn_order}
use Rattle.drf_rows.specs.declared.rows.AgentRow.{AgentRow}
use Rattle.drf_rows.specs.declared.rows.Rows.{Rows}
use Rattle.drf_rows.specs.declared.rows.OfferRow.{OfferRow}
use Rattle.drf_explain.specs.Each.{reported_of_each, each_on, turns_on_all, untouched_on}
use Rattle.drf_explain.specs.Explained.{outcome, reported_of_agent, reported_of_all}
use Rattle.drf_tables.specs.cycle.Drafts.{with_offers}
use Rattle.drf_explain.specs.declared.finding.Finding.{Finding}
use Rattle.drf_explain.specs.declared.finding.Finding.TheVariants.{Left, Tried}

-- the findings for clients on an agent: for each client, or for those before too little is left
abbrev pub reported_by : Bool → Rows → AgentRow → List Client → List Finding
reported_by each rows agent clients = if each then reported_of_each rows agent clients else reported_of_all rows agent clients

-- the findings for an agent
abbrev pub reported_on : Bool → Rows → AgentRow → List Finding
reported_on each rows agent = if each then each_on rows agent else reported_of_agent rows agent

-- the findings for the agent at a place
abbrev pub reported_at : Bool → Rows → ℕ → List Finding
reported_at each rows place = option_map_or (reported_on each rows) (slice_get rows.agents place) []

-- for each client in the turn of the agent at a place, its outcome if it were tried first
abbrev pub untouched_at : Rows → ℕ → List Finding
untouched_at rows place = option_map_or (untouched_on rows) (slice_get rows.agents place) []

-- the finding for the clients that are not tried
abbrev pub left_reported : Text → List Resource → ℕ → List Finding
left_reported agent left clients = if nat_lt 0 clients then Left agent left clients ∷ [] else []

-- all clients were tried on the agent at the place, until too little was left for an offer
abbrev pub AreTried : Rows → Rows → ℕ → Type 0
AreTried old new place = (agent : AgentRow) → slice_get old.agents place ≡ Some agent → new ≡ all_tried old agent (turn_order old)

-- the findings for these clients come after the earlier findings
abbrev pub AreReportedAt : Bool → Rows → ℕ → List Finding → List Finding → Type 0
AreReportedAt each rows place before after = (agent : AgentRow) → slice_get rows.agents place ≡ Some agent
    → after ≡ before ++ reported_by each rows agent (turn_order rows)

-- the finding is the outcome for the client of the path on the agent of the name
abbrev pub IsOutcomeOf : Rows → AgentRow → Path → Finding → Type 0
IsOutcomeOf rows agent path finding = (client : Client) → path ≡ path_of client
    → finding ≡ Tried agent.name (path_of client) (outcome rows agent client)

-- ---- an explanation that is computed agent by agent

-- the findings that remain for the agents from a place on, with the drafts; none if the explanation has ended
abbrev pub left_to_explain : Bool → Rows → List OfferRow → ℕ → List (List Finding × List Finding)
left_to_explain over rows offers place = if over then [] else turns_on_all (with_offers rows offers) (drop place rows.agents)
