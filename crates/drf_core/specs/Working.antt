-- How much work an event may add for the sorter.
use Rattle.std.specs.Prelude.{ℕ, ◌+◌, ◌≤◌, Bool, true, false, not, IsTrue, List, [], ◌∷◌, ◌++◌, length, map, filter, sum_by}
use Rattle.std.specs.Option.{option_map_or}
use Rattle.drf_role.specs.Text.{same_text}
use Rattle.drf_rows.specs.Client.{Client, path_of}
use Rattle.drf_rows.specs.Releases.{Release, one_offer, one_task, offers_on, all_on, all_of, ends_offer, ends_task}
use Rattle.drf_rows.specs.Held.{clients_of}
use Rattle.drf_rows.specs.Holdings.{holding_of_offer, holding_of_task}
use Rattle.drf_rows.specs.LimitNumbers.{LimitNumbers}
use Rattle.drf_rows.specs.Members.{distinct}
use Rattle.drf_rows.specs.Report as report
use Rattle.drf_rows.specs.Roles.{is_left}
use Rattle.drf_rows.specs.Step.{effect, is_in_role, new_offers, refusal_of, rows_after}
use Rattle.drf_rows.specs.declared.event.Event.{Event}
use Rattle.drf_rows.specs.declared.event.Event.TheVariants.{AddAgent, RemoveAgent, DeactivateAgent, SetAgent, AddFramework, SetFramework, RemoveFramework, Accept, Decline, Rescind, Finish, Suppress, Revive, SetWeight, Cycle}
use Rattle.drf_rows.specs.declared.rows.OfferRow.{OfferRow}
use Rattle.drf_rows.specs.declared.rows.Rows.{Rows}
use Rattle.drf_sorter.specs.Work.{Work, debt}

-- the number of nodes on the paths of clients
abbrev pub nodes_of : List Client → ℕ
nodes_of clients = sum_by (λ c. length (path_of c)) clients

-- the clients of offers
abbrev pub offered_to : List OfferRow → List Client
offered_to offers = map (λ o. (holding_of_offer o).client) offers

-- the clients of the offers and tasks that end
abbrev pub losers : Rows → Release → List Client
losers rows release =
    offered_to (filter (ends_offer release) rows.offers) ++ map (λ t. (holding_of_task t).client) (filter (ends_task release) rows.tasks)

-- The client of each offer that an event adds, of each offer and task that it ends, and each client that it adds, changes or removes. The offer and
-- the tasks of an accept belong to one client, which is listed once.
abbrev pub touched : Rows → Event → List Client
touched rows (RemoveAgent agent) = losers rows (all_on agent)
touched rows (DeactivateAgent agent) = losers rows (offers_on agent)
touched rows (AddFramework framework roles) = map (λ role. record { role = role; framework = framework }) (distinct roles)
touched rows (SetFramework framework roles) =
    filter (is_left framework roles) (clients_of rows)
    ++ map (λ role. record { role = role; framework = framework }) (filter (λ role. not (is_in_role rows framework role)) (distinct roles))
touched rows (RemoveFramework framework) =
    losers rows (all_of framework) ++ filter (λ c. same_text c.framework framework) (clients_of rows)
touched rows (Accept a) = losers rows (one_offer a.offer)
touched rows (Decline d) = losers rows (one_offer d.offer)
touched rows (Rescind offer) = losers rows (one_offer offer)
touched rows (Finish framework task) = losers rows (one_task framework task)
touched rows (Suppress framework role) = record { role = role; framework = framework } ∷ []
touched rows (Revive framework role) = record { role = role; framework = framework } ∷ []
touched rows (Cycle at) = offered_to (new_offers rows (effect rows (Cycle at)))
touched rows event = []

-- keys may be computed only when clients are put in order or added
abbrev pub may_make_keys : Event → Bool
may_make_keys (AddFramework framework roles) = true
may_make_keys (SetFramework framework roles) = true
may_make_keys (Cycle at) = true
may_make_keys event = false

-- the number of nodes of a report
abbrev pub all_nodes : Rows → ℕ
all_nodes rows = length (report.nodes_of rows)

-- What an accepted event may add. Each key depends on the cluster's total, so each node counts if the total changes.
abbrev pub allowed : Rows → Event → ℕ
allowed rows (AddAgent agent total) = all_nodes rows
allowed rows (RemoveAgent agent) = nodes_of (touched rows (RemoveAgent agent)) + all_nodes rows
allowed rows (SetAgent agent total) = all_nodes rows
allowed rows (SetWeight role weight) = 1
allowed rows event = nodes_of (touched rows event)

-- what an event may add: nothing if it is refused
abbrev pub allowance : LimitNumbers → Rows → Event → ℕ
allowance limits rows event = option_map_or (λ refusal. 0) (refusal_of limits rows event) (allowed rows event)

-- what a list of events may add: each event is taken after those before it
abbrev pub allowance_of_all : LimitNumbers → Rows → List Event → ℕ
allowance_of_all limits rows [] = 0
allowance_of_all limits rows (event ∷ events) =
    allowance limits rows event + allowance_of_all limits (rows_after limits rows event) events

-- if work is counted, the debt grew by at most the nodes on the paths of the clients of the new drafts
abbrev pub AddsDrafts : Bool → Work → Work → List OfferRow → List OfferRow → Type 0
AddsDrafts counted old new before after =
    IsTrue counted → debt new + nodes_of (offered_to before) ≤ debt old + nodes_of (offered_to after)
