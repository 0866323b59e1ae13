-- Agents and frameworks: registering, becoming active or inactive, suppressing and reviving clients, and removal.
use Rattle.std.specs.Prelude.{Bool, true, false, not, List, [], ◌∷◌, ◌++◌, map, filter, if◌then◌else◌}
use Rattle.std.specs.List.{list_any}
use Rattle.drf_role.specs.Text.{Text, same_text}
use Rattle.drf_role.specs.Path.{Path, same_path}
use Rattle.drf_bundle.specs.declared.resource.Resource.{Resource}
use Rattle.drf_rows.specs.Client.{Client}
use Rattle.drf_rows.specs.Releases.{without_ended, offers_on, all_on, all_of}
use Rattle.drf_rows.specs.Filters.{filters_without_client, filters_without_agent, filters_without_framework}
use Rattle.drf_rows.specs.declared.rows.AgentRow.{AgentRow}
use Rattle.drf_rows.specs.declared.rows.ClientRow.{ClientRow}
use Rattle.drf_rows.specs.declared.rows.FrameworkRow.{FrameworkRow}
use Rattle.drf_rows.specs.declared.rows.Rows.{Rows}

-- ---- registering

-- an agent with that name is registered
abbrev pub has_agent : Rows → Text → Bool
has_agent rows name = list_any (λ a. same_text a.name name) rows.agents

-- a framework with that name is registered
abbrev pub has_framework : Rows → Text → Bool
has_framework rows name = list_any (λ f. same_text f.name name) rows.frameworks

-- the list without repetitions: each role once, where it first occurs
abbrev pub distinct : List Path → List Path
distinct [] = []
distinct (role ∷ roles) = role ∷ filter (λ r. not (same_path role r)) (distinct roles)

-- the rows of the agents, with a new active agent added last
abbrev pub with_agent : Rows → Text → List Resource → List AgentRow
with_agent rows name total = rows.agents ++ record { name = name; total = total; active = true } ∷ []

-- the row of a new client
abbrev pub new_client : Path → ClientRow
new_client role = record { role = role; count = 0; suppressed = false }

-- the rows of the frameworks, with a new one added last
abbrev pub with_framework : Rows → Text → List Path → List FrameworkRow
with_framework rows name roles = rows.frameworks ++ record { name = name; clients = map new_client (distinct roles) } ∷ []

-- ---- active and inactive, suppressed or not

-- the row, made active or inactive if it is that of the agent with that name
abbrev pub active_at : Text → Bool → AgentRow → AgentRow
active_at name active a = if same_text a.name name then record a { active = active } else a

-- the rows of the agents, with one made active or inactive
abbrev pub with_activity : Rows → Text → Bool → List AgentRow
with_activity rows name active = map (active_at name active) rows.agents

-- the row, with suppression set if it is that of the client
abbrev pub suppressed_at : Client → Bool → ClientRow → ClientRow
suppressed_at client suppressed c = if same_path c.role client.role then record c { suppressed = suppressed } else c

-- the framework's row, with suppression set for the client if it is one of its clients
abbrev pub suppressed_in : Client → Bool → FrameworkRow → FrameworkRow
suppressed_in client suppressed f =
    if same_text f.name client.framework then record f { clients = map (suppressed_at client suppressed) f.clients } else f

-- the rows of the frameworks, with suppression set for the client
abbrev pub with_suppression : Rows → Client → Bool → List FrameworkRow
with_suppression rows client suppressed = map (suppressed_in client suppressed) rows.frameworks

-- deactivating an agent ends its offers; its tasks stay
abbrev pub agent_deactivated : Rows → Text → Rows
agent_deactivated rows name = record (without_ended rows (offers_on name)) { agents = with_activity rows name false }

-- reviving a client ends its suppression and removes its filters
abbrev pub revived : Rows → Client → Rows
revived rows client = record rows {
  frameworks = with_suppression rows client false;
  filters = filters_without_client client rows.filters;
}

-- ---- removal

-- removing an agent ends all offers and tasks on it, and removes the filters on it
abbrev pub agent_removed : Rows → Text → Rows
agent_removed rows name = record (without_ended rows (all_on name)) {
  agents = filter (λ a. not (same_text a.name name)) rows.agents;
  filters = filters_without_agent name rows.filters;
}

-- removing a framework ends all its offers and tasks, and removes its filters
abbrev pub framework_removed : Rows → Text → Rows
framework_removed rows name = record (without_ended rows (all_of name)) {
  frameworks = filter (λ f. not (same_text f.name name)) rows.frameworks;
  filters = filters_without_framework name rows.filters;
}
