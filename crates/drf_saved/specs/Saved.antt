-- A saved state: the current state of an allocator as a list of rows, table by table, and the rule that says when a row may follow others.
use Rattle.std.specs.Prelude.{◌+◌, ◌*◌, ◌^◌, Bool, false, not, ◌&&◌, ◌||◌, List, [], ◌∷◌, ◌++◌, length, map, find, Option, Some, None, is_some, if◌then◌else◌, nat_lt, nat_le}
use Rattle.std.specs.List.{list_all}
use Rattle.std.specs.Option.{option_map, option_map_or}
use Rattle.drf_role.specs.Name.{IsName}
use Rattle.drf_role.specs.Role.{IsRole}
use Rattle.drf_role.specs.Text.{Text}
use Rattle.drf_role.specs.Path.{Path}
use Rattle.drf_bundle.specs.Bundle.{IsBundle, covers, is_default, part_for}
use Rattle.drf_bundle.specs.declared.resource.Resource.{Resource}
use Rattle.drf_rows.specs.Consistent.{IsFramework, are_distinct_roles, offers_counted}
use Rattle.drf_rows.specs.Cycle.{free_of}
use Rattle.drf_rows.specs.Filters.{in_force}
use Rattle.drf_rows.specs.Held.{clients_of, is_registered}
use Rattle.drf_rows.specs.LimitNumbers.{LimitNumbers}
use Rattle.drf_rows.specs.Members.{has_agent, has_framework}
use Rattle.drf_rows.specs.Offers.{has_task, is_empty}
use Rattle.drf_rows.specs.Quota.{has_limit}
use Rattle.drf_rows.specs.Step.{opening, is_too_large, too_many_agents}
use Rattle.drf_rows.specs.Totals.{agent_at}
use Rattle.drf_rows.specs.Weights.{has_weight, is_weight}
use Rattle.drf_rows.specs.declared.limits.TheConstants.{LATEST_TIMESTAMP}
use Rattle.drf_rows.specs.declared.reply.Refusal.TheVariants.{HistoryFull, BadMoment, UnknownAgent, KnownAgent, UnknownFramework, KnownFramework, KnownTask, NotInRole, DefaultRole, Empty, NotCovered, BadWeight, TooLarge, TooMany}
use Rattle.drf_rows.specs.declared.rows.FrameworkRow.{FrameworkRow}
use Rattle.drf_rows.specs.declared.rows.Rows.{Rows}
use Rattle.drf_saved.specs.declared.fault.RowFault.{RowFault}
use Rattle.drf_saved.specs.declared.fault.RowFault.TheVariants.{Refused, OutOfOrder, KnownRole, BadNumber}
use Rattle.drf_saved.specs.declared.saved.Head.{Head}
use Rattle.drf_saved.specs.declared.saved.SavedRow.{SavedRow}
use Rattle.drf_saved.specs.declared.saved.SavedRow.TheVariants.{Agent, Framework, Weight, Limit, Offer, Task, Filter}

-- ---- the list

-- the current state as rows, each table after those to which it refers
abbrev pub saved_rows : Rows → List SavedRow
saved_rows rows =
    map Agent rows.agents ++ (map Framework rows.frameworks ++ (map Weight rows.weights ++ (map Limit rows.limits
    ++ (map Offer rows.offers ++ (map Task rows.tasks ++ map Filter (in_force rows.clock rows.filters))))))

abbrev pub head_of : Rows → Head
head_of rows = record { clock = rows.clock; next_offer = rows.next_offer; events = rows.events }

-- what the type of a row ensures: valid names, roles and bundles
abbrev pub IsTyped : SavedRow → Type 0
IsTyped (Agent a) = IsName a.name × IsBundle a.total
IsTyped (Framework f) = IsFramework f
IsTyped (Weight w) = IsRole w.role
IsTyped (Limit l) = IsRole l.role
IsTyped (Offer o) = IsName o.agent × IsName o.framework × IsRole o.role × IsBundle o.bundle
IsTyped (Task t) = IsName t.name × IsName t.agent × IsName t.framework × IsRole t.role × IsBundle t.bundle
IsTyped (Filter f) = IsName f.agent × IsName f.framework × IsRole f.role × IsBundle f.bundle

-- ---- the rows that a list restores

-- a state begins with its numbers and without rows
abbrev pub begun : Head → Rows
begun head = record opening { clock = head.clock; next_offer = head.next_offer; events = head.events }

-- adds a row at the end of its table
abbrev pub with_row : Rows → SavedRow → Rows
with_row rows (Agent a) = record rows { agents = rows.agents ++ a ∷ [] }
with_row rows (Framework f) = record rows { frameworks = rows.frameworks ++ f ∷ [] }
with_row rows (Weight w) = record rows { weights = rows.weights ++ w ∷ [] }
with_row rows (Limit l) = record rows { limits = rows.limits ++ l ∷ [] }
with_row rows (Offer o) = record rows { offers = rows.offers ++ o ∷ [] }
with_row rows (Task t) = record rows { tasks = rows.tasks ++ t ∷ [] }
with_row rows (Filter f) = record rows { filters = rows.filters ++ f ∷ [] }

-- ---- why a row may not follow others

-- this table and all later ones are empty
abbrev pub no_filters : Rows → Bool
no_filters rows = is_empty rows.filters

abbrev pub no_tasks : Rows → Bool
no_tasks rows = is_empty rows.tasks && no_filters rows

abbrev pub no_offers : Rows → Bool
no_offers rows = is_empty rows.offers && no_tasks rows

abbrev pub no_limits : Rows → Bool
no_limits rows = is_empty rows.limits && no_offers rows

abbrev pub no_weights : Rows → Bool
no_weights rows = is_empty rows.weights && no_limits rows

abbrev pub no_frameworks : Rows → Bool
no_frameworks rows = is_empty rows.frameworks && no_weights rows

abbrev pub roles_of : FrameworkRow → List Path
roles_of f = map (λ c. c.role) f.clients

-- one more framework would exceed the capacity of frameworks, of the roles of a framework, or of clients
abbrev pub has_too_many_clients : LimitNumbers → Rows → FrameworkRow → Bool
has_too_many_clients limits rows f =
    nat_lt limits.frameworks (length rows.frameworks + 1)
    || (nat_lt limits.roles (length f.clients) || nat_lt limits.clients (length (clients_of rows) + length f.clients))

-- the part of the agent's free resources that the role can use covers the bundle
abbrev pub is_usable : Rows → Text → Path → List Resource → Bool
is_usable rows agent role bundle = option_map_or (λ a. covers (part_for role (free_of rows a)) bundle) (agent_at rows agent) false

-- the errors of a holding or a filter whose agent, framework or client is not registered
abbrev pub owner_cases : Rows → Text → Text → Path → List (Bool × RowFault)
owner_cases rows agent framework role =
    (not (has_agent rows agent), Refused UnknownAgent)
    ∷ (not (has_framework rows framework), Refused UnknownFramework)
    ∷ (not (is_registered rows.frameworks (record { role = role; framework = framework })), Refused NotInRole)
    ∷ []

-- the conditions under which a row may not follow others, each with its error; the first that holds is reported
abbrev pub row_cases : LimitNumbers → Rows → SavedRow → List (Bool × RowFault)
row_cases limits rows (Agent a) =
    (not (no_frameworks rows), OutOfOrder)
    ∷ (has_agent rows a.name, Refused KnownAgent)
    ∷ (is_too_large a.total, Refused TooLarge)
    ∷ (too_many_agents limits (rows.agents ++ a ∷ []), Refused TooMany)
    ∷ []
row_cases limits rows (Framework f) =
    (not (no_weights rows), OutOfOrder)
    ∷ (has_framework rows f.name, Refused KnownFramework)
    ∷ (has_too_many_clients limits rows f, Refused TooMany)
    ∷ (not (are_distinct_roles (roles_of f)), KnownRole)
    ∷ (nat_le rows.next_offer (offers_counted (rows.frameworks ++ f ∷ [])), BadNumber)
    ∷ []
row_cases limits rows (Weight w) =
    (not (no_limits rows), OutOfOrder)
    ∷ (has_weight rows w.role, KnownRole)
    ∷ (not (is_weight w.weight), Refused BadWeight)
    ∷ (nat_lt limits.weights (length rows.weights + 1), Refused TooMany)
    ∷ []
row_cases limits rows (Limit l) =
    (not (no_offers rows), OutOfOrder)
    ∷ (is_default l.role, Refused DefaultRole)
    ∷ (is_empty l.limit, Refused Empty)
    ∷ (has_limit rows l.role, KnownRole)
    ∷ (nat_lt limits.limits (length rows.limits + 1) || nat_lt limits.scalar_names (length l.limit), Refused TooMany)
    ∷ []
row_cases limits rows (Offer o) =
    (not (no_tasks rows), OutOfOrder)
    ∷ owner_cases rows o.agent o.framework o.role
    ++ (not (is_usable rows o.agent o.role o.bundle), Refused NotCovered)
    ∷ (not (list_all (λ p. nat_lt p.number o.number) rows.offers) || nat_le rows.next_offer o.number, BadNumber)
    ∷ []
row_cases limits rows (Task t) =
    (not (no_filters rows), OutOfOrder)
    ∷ owner_cases rows t.agent t.framework t.role
    ++ (has_task rows t.framework t.name, Refused KnownTask)
    ∷ (not (is_usable rows t.agent t.role t.bundle), Refused NotCovered)
    ∷ []
row_cases limits rows (Filter f) =
    owner_cases rows f.agent f.framework f.role
    ++ (nat_le f.until rows.clock || nat_le (2 ^ 63) f.until, BadNumber)
    ∷ (nat_le limits.filters (length rows.filters), Refused TooMany)
    ∷ []

-- the conditions under which numbers may not be the head; an event makes at most 2^24 offers
abbrev pub head_cases : LimitNumbers → Head → List (Bool × RowFault)
head_cases limits head =
    (nat_lt limits.events head.events, Refused HistoryFull)
    ∷ (nat_lt LATEST_TIMESTAMP head.clock, Refused BadMoment)
    ∷ (not (nat_le 1 head.next_offer) || nat_lt (1 + head.events * 2 ^ 24) head.next_offer, BadNumber)
    ∷ []

-- the error of the first condition that holds
abbrev pub first_fault : List (Bool × RowFault) → Option RowFault
first_fault cases = option_map (λ c. c.1) (find (λ c. c.0) cases)

-- why a row may not follow others, or `None` if it may
unfoldable pub row_fault : LimitNumbers → Rows → SavedRow → Option RowFault
row_fault limits rows row = first_fault (row_cases limits rows row)

-- why numbers may not be the head, or `None` if they may
unfoldable pub head_fault : LimitNumbers → Head → Option RowFault
head_fault limits head = first_fault (head_cases limits head)

-- ---- restoring a list

-- the rows after those of a list are added, if each of them may follow those before it
abbrev pub restored_from : LimitNumbers → Rows → List SavedRow → Option Rows
restored_from limits rows [] = Some rows
restored_from limits rows (row ∷ more) = if is_some (row_fault limits rows row) then None else restored_from limits (with_row rows row) more

-- the rows that a head and a list restore
abbrev pub restored : LimitNumbers → Head → List SavedRow → Option Rows
restored limits head saved = if is_some (head_fault limits head) then None else restored_from limits (begun head) saved
