-- Filters (Mesos: offer filters): until a filter expires, its client is not offered anything on its agent that the
-- filter covers. A filter has what the client declined, or what it left of an offer that it accepted.
use Rattle.std.specs.Prelude.{ℕ, Bool, not, ◌&&◌, List, filter, count_by, nat_lt}
use Rattle.std.specs.List.{list_any}
use Rattle.drf_role.specs.Text.{Text, same_text}
use Rattle.drf_role.specs.Path.{same_path}
use Rattle.drf_bundle.specs.Bundle.{covers}
use Rattle.drf_bundle.specs.declared.resource.Resource.{Resource}
use Rattle.drf_rows.specs.Client.{Client}
use Rattle.drf_rows.specs.declared.rows.FilterRow.{FilterRow}

-- a filter is in force until the clock reaches its end
abbrev pub is_in_force : ℕ → FilterRow → Bool
is_in_force clock f = nat_lt clock f.until

-- the filters in force
abbrev pub in_force : ℕ → List FilterRow → List FilterRow
in_force clock filters = filter (is_in_force clock) filters

-- the number of filters in force; equal filters are counted each
abbrev pub number_in_force : ℕ → List FilterRow → ℕ
number_in_force clock filters = count_by (is_in_force clock) filters

-- the filter belongs to the client
abbrev pub is_of_client : Client → FilterRow → Bool
is_of_client client f = same_path f.role client.role && same_text f.framework client.framework

-- the filter is on the agent
abbrev pub is_on_agent : Text → FilterRow → Bool
is_on_agent agent f = same_text f.agent agent

-- the filter keeps the client from being offered the bundle on the agent: it is in force, is on the agent, belongs to
-- the client, and covers the bundle
abbrev pub holds_back : ℕ → Client → Text → List Resource → FilterRow → Bool
holds_back clock client agent bundle f =
    is_in_force clock f && (is_of_client client f && (is_on_agent agent f && covers f.bundle bundle))

-- some filter keeps the client from being offered the bundle on the agent
abbrev pub is_held_back : List FilterRow → ℕ → Client → Text → List Resource → Bool
is_held_back filters clock client agent bundle = list_any (holds_back clock client agent bundle) filters

-- the filters after a client revives
abbrev pub filters_without_client : Client → List FilterRow → List FilterRow
filters_without_client client filters = filter (λ f. not (is_of_client client f)) filters

-- the filters after an agent is removed
abbrev pub filters_without_agent : Text → List FilterRow → List FilterRow
filters_without_agent agent filters = filter (λ f. not (is_on_agent agent f)) filters

-- the filters after a framework is removed
abbrev pub filters_without_framework : Text → List FilterRow → List FilterRow
filters_without_framework framework filters = filter (λ f. not (same_text f.framework framework)) filters
