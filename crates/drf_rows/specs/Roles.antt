-- Changing the roles of a framework while it runs (`set_framework`).
use Rattle.std.specs.Prelude.{Bool, not, ◌&&◌, ◌||◌, List, ◌++◌, length, map, filter, if◌then◌else◌, nat_lt}
use Rattle.std.specs.List.{list_any}
use Rattle.drf_role.specs.Text.{Text, same_text}
use Rattle.drf_role.specs.Path.{Path, same_path}
use Rattle.drf_rows.specs.LimitNumbers.{LimitNumbers}
use Rattle.drf_rows.specs.Client.{Client}
use Rattle.drf_rows.specs.Holdings.{holdings_of}
use Rattle.drf_rows.specs.Held.{clients_in}
use Rattle.drf_rows.specs.Members.{distinct, new_client}
use Rattle.drf_rows.specs.declared.rows.ClientRow.{ClientRow}
use Rattle.drf_rows.specs.declared.rows.FilterRow.{FilterRow}
use Rattle.drf_rows.specs.declared.rows.FrameworkRow.{FrameworkRow}
use Rattle.drf_rows.specs.declared.rows.Rows.{Rows}

-- the role is in the list
abbrev pub is_among : List Path → Path → Bool
is_among roles role = list_any (λ r. same_path r role) roles

-- one of the clients has the role
abbrev pub has_role : List ClientRow → Path → Bool
has_role clients role = list_any (λ c. same_path c.role role) clients

-- ---- the clients of the framework

-- the clients whose roles are in the new list, unchanged
abbrev pub clients_kept : List Path → List ClientRow → List ClientRow
clients_kept roles clients = filter (λ c. is_among roles c.role) clients

-- a new client for each role in the list that had no client, in the order of the list
abbrev pub clients_joined : List Path → List ClientRow → List ClientRow
clients_joined roles clients = map new_client (filter (λ role. not (has_role clients role)) (distinct roles))

-- the clients after the change: those that stay, then the new ones
abbrev pub with_roles : List Path → List ClientRow → List ClientRow
with_roles roles clients = clients_kept roles clients ++ clients_joined roles clients

-- the row of a framework, with its roles changed if it has that name
abbrev pub roles_set_in : Text → List Path → FrameworkRow → FrameworkRow
roles_set_in name roles f = if same_text f.name name then record f { clients = with_roles roles f.clients } else f

-- the rows of the frameworks, with the roles of one changed
abbrev pub with_framework_roles : Rows → Text → List Path → List FrameworkRow
with_framework_roles rows name roles = map (roles_set_in name roles) rows.frameworks

-- ---- the clients that are removed

-- the client belongs to that framework, and its role is not in the new list
abbrev pub is_left : Text → List Path → Client → Bool
is_left name roles client = same_text client.framework name && not (is_among roles client.role)

-- a client that would be removed holds an offer or a task
abbrev pub is_role_in_use : Rows → Text → List Path → Bool
is_role_in_use rows name roles = list_any (λ h. is_left name roles h.client) (holdings_of rows)

-- the filter belongs to a client that is removed
abbrev pub is_of_left : Text → List Path → FilterRow → Bool
is_of_left name roles f = is_left name roles (record { role = f.role; framework = f.framework })

-- the filters without those of the removed clients
abbrev pub filters_without_left : Text → List Path → List FilterRow → List FilterRow
filters_without_left name roles filters = filter (λ f. not (is_of_left name roles f)) filters

-- ---- the rows

-- the state after the roles of a framework are changed
abbrev pub framework_set : Rows → Text → List Path → Rows
framework_set rows name roles = record rows {
  frameworks = with_framework_roles rows name roles;
  filters = filters_without_left name roles rows.filters;
}

-- the framework would have too many roles, or there would be too many clients
abbrev pub too_many_roles : LimitNumbers → Rows → Text → List Path → Bool
too_many_roles limits rows name roles =
    nat_lt limits.roles (length (distinct roles))
    || nat_lt limits.clients (length (clients_in (with_framework_roles rows name roles)))
