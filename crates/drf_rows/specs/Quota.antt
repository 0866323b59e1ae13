-- Quota limits (Mesos: quota limits): what roles consume, what their limits leave, and what a client can be offered
-- under them.
use Rattle.std.specs.Prelude.{ℕ, ◌+◌, ◌-◌, min, Bool, not, ◌&&◌, List, [], ◌∷◌, map, fold, filter, flat_map, sum_by, Option, Some, None, if◌then◌else◌, nat_le}
use Rattle.std.specs.List.{list_all, list_any, reduce}
use Rattle.std.specs.Option.{option_map_or}
use Rattle.drf_role.specs.Text.{Text, same_text}
use Rattle.drf_role.specs.Parts.{parts_of}
use Rattle.drf_role.specs.Path.{Path, same_path, begins_with}
use Rattle.drf_bundle.specs.Value.{Thousandths}
use Rattle.drf_bundle.specs.Quantities.{amount_of, is_named, names_of, with_amount}
use Rattle.drf_bundle.specs.Bundle.{Key, units, units_where, part_for, clip}
use Rattle.drf_bundle.specs.declared.quantities.Entry.{Entry}
use Rattle.drf_bundle.specs.declared.resource.Resource.{Resource}
use Rattle.drf_rows.specs.Client.{Client}
use Rattle.drf_rows.specs.Holdings.{Holding, holdings_of}
use Rattle.drf_rows.specs.declared.rows.AgentRow.{AgentRow}
use Rattle.drf_rows.specs.declared.rows.LimitRow.{LimitRow}
use Rattle.drf_rows.specs.declared.rows.Rows.{Rows}

-- ---- consumption, in thousandths

-- how much of a scalar a bundle has unreserved
abbrev pub unreserved_in : Text → List Resource → ℕ
unreserved_in label bundle = units bundle (label, []) Thousandths

-- the key is that of the scalar, reserved for a role that passes the test
abbrev pub reserves : (Path → Bool) → Text → Key → Bool
reserves test label key = same_text label key.0 && (not (same_text key.1 []) && test (parts_of key.1))

-- how much of a scalar a bundle has reserved for roles that pass a test
abbrev pub reserved_in : (Path → Bool) → Text → List Resource → ℕ
reserved_in test label bundle = units_where (reserves test label) Thousandths bundle

-- how much unreserved of a scalar the clients in roles that pass a test hold
abbrev pub held_unreserved : (Path → Bool) → List Holding → Text → ℕ
held_unreserved test holdings label = sum_by (λ h. if test h.client.role then unreserved_in label h.bundle else 0) holdings

-- how much of a scalar all agents have reserved for roles that pass a test
abbrev pub reserved_for : (Path → Bool) → List AgentRow → Text → ℕ
reserved_for test agents label = sum_by (λ a. reserved_in test label a.total) agents

-- what the roles that pass a test consume: what their clients hold unreserved, and what is reserved for them
abbrev pub consumption_where : (Path → Bool) → Rows → Text → ℕ
consumption_where test rows label = held_unreserved test (holdings_of rows) label + reserved_for test rows.agents label

-- the second role is the first one or below it
abbrev pub is_within : Path → Path → Bool
is_within outer role = begins_with role outer

-- what a role and the roles below it consume of a scalar
abbrev pub consumption : Rows → Path → Text → ℕ
consumption rows role label = consumption_where (is_within role) rows label

-- ---- headroom

-- what each role consumes of each scalar, as a function
abbrev pub Consumed : Type 0
Consumed = Path → Text → ℕ

-- the limit restricts the role: it is that of the role or of a role above it, and names the scalar
abbrev pub binds : Path → Text → LimitRow → Bool
binds role label l = is_within l.role role && is_named l.limit label

-- what a limit leaves of a scalar; 0 if more is consumed than the limit
abbrev pub room_under : Consumed → Text → LimitRow → ℕ
room_under consumed label l = amount_of l.limit label - consumed l.role label

-- the headroom of a role: the least that is left under the limits that restrict it; none if no limit names the scalar
abbrev pub headroom_under : List LimitRow → Consumed → Path → Text → Option ℕ
headroom_under limits consumed role label = reduce min (map (room_under consumed label) (filter (binds role label) limits))

-- the headroom of a role in a state
abbrev pub headroom_at : Rows → Path → Text → Option ℕ
headroom_at rows role label = headroom_under rows.limits (consumption rows) role label

-- the scalars that the limits of the role and of the roles above it name
abbrev pub limited_names : List LimitRow → Path → List Text
limited_names limits role = flat_map (λ l. names_of l.limit) (filter (λ l. is_within l.role role) limits)

-- the headroom of each of these scalars, in byte order of their names
abbrev pub headrooms : List LimitRow → Consumed → Path → List Entry
headrooms limits consumed role =
    fold (λ room label. with_amount room label (option_map_or (λ n. n) (headroom_under limits consumed role label) 0)) []
    (limited_names limits role)

-- the headroom of each limited scalar in a state
abbrev pub headroom : Rows → Path → List Entry
headroom rows role = headrooms rows.limits (consumption rows) role

-- what a client can have of a free bundle: the unreserved part, with its scalars cut to the headroom of the client's
-- role, and what is reserved for this role or a role above it
abbrev pub entitlement : Rows → List Resource → Client → List Resource
entitlement rows free client = clip (headroom rows client.role) (part_for client.role free)

-- ---- what limits admit

-- if `more` is added, consumption is at most the limit
abbrev pub stays_within : Consumed → Entry → LimitRow → Bool
stays_within consumed more l = nat_le (consumed l.role more.label + more.amount) (amount_of l.limit more.label)

-- with each of the amounts added, the role and the roles above it stay within their limits
abbrev pub admits_under : List LimitRow → Consumed → Path → List Entry → Bool
admits_under limits consumed role amounts =
    list_all (λ more. list_all (stays_within consumed more) (filter (binds role more.label) limits)) amounts

-- the limits in a state admit the amounts
abbrev pub admits : Rows → Path → List Entry → Bool
admits rows role amounts = admits_under rows.limits (consumption rows) role amounts

-- ---- setting a limit

-- the limit of the role, if it has one
abbrev pub limit_of : List LimitRow → Path → Option (List Entry)
limit_of [] role = None
limit_of (l ∷ ls) role = if same_path l.role role then Some l.limit else limit_of ls role

-- the rows with the limit of the role set: its row keeps its place, and a new row is added last
abbrev pub limits_put : List LimitRow → Path → List Entry → List LimitRow
limits_put [] role limit = record { role = role; limit = limit } ∷ []
limits_put (l ∷ ls) role limit =
    if same_path l.role role then record { role = l.role; limit = limit } ∷ ls else l ∷ limits_put ls role limit

-- the rows without that of the role
abbrev pub limits_without : List LimitRow → Path → List LimitRow
limits_without [] role = []
limits_without (l ∷ ls) role = if same_path l.role role then ls else l ∷ limits_without ls role

-- the rows after a limit is set: an empty limit removes the row
abbrev pub limits_with : List LimitRow → Path → List Entry → List LimitRow
limits_with limits role [] = limits_without limits role
limits_with limits role (e ∷ es) = limits_put limits role (e ∷ es)

-- the role has a limit
abbrev pub has_limit : Rows → Path → Bool
has_limit rows role = list_any (λ l. same_path l.role role) rows.limits
