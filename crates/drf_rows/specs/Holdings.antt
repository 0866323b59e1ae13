-- Holdings: what clients hold on agents. Offers and tasks both count.
use Rattle.std.specs.Prelude.{ℕ, Bool, List, ◌++◌, map, filter, sum_by}
use Rattle.drf_role.specs.Text.{Text, same_text}
use Rattle.drf_role.specs.Path.{Path, same_path, begins_with}
use Rattle.drf_bundle.specs.Quantities.{amount_of}
use Rattle.std.specs.List.{AllByRecursion}
use Rattle.drf_bundle.specs.Bundle.{IsBundle, quantities_of}
use Rattle.drf_bundle.specs.declared.resource.Resource.{Resource}
use Rattle.drf_rows.specs.Client.{Client, path_of}
use Rattle.drf_rows.specs.declared.rows.OfferRow.{OfferRow}
use Rattle.drf_rows.specs.declared.rows.TaskRow.{TaskRow}
use Rattle.drf_rows.specs.declared.rows.Rows.{Rows}

-- a bundle that a client holds on an agent
pub record Holding : Type 0 where
  pub agent : Text
  pub client : Client
  pub bundle : List Resource

-- an offer as a holding
abbrev pub holding_of_offer : OfferRow → Holding
holding_of_offer o = record { agent = o.agent; client = record { role = o.role; framework = o.framework }; bundle = o.bundle }

-- a task as a holding
abbrev pub holding_of_task : TaskRow → Holding
holding_of_task t = record { agent = t.agent; client = record { role = t.role; framework = t.framework }; bundle = t.bundle }

-- all holdings: first the offers, then the tasks
abbrev pub holdings_of : Rows → List Holding
holdings_of rows = map holding_of_offer rows.offers ++ map holding_of_task rows.tasks

-- how much of a scalar a holding has, in thousandths
abbrev pub amount_in : Text → Holding → ℕ
amount_in label h = amount_of (quantities_of h.bundle) label

-- how much of a scalar the holdings that pass a test have together
abbrev pub held_where : (Holding → Bool) → List Holding → Text → ℕ
held_where test holdings label = sum_by (amount_in label) (filter test holdings)

-- the holding is on the agent
abbrev pub is_on : Text → Holding → Bool
is_on agent h = same_text h.agent agent

-- the bundles that are held on an agent
abbrev pub parts_on : Text → List Holding → List (List Resource)
parts_on agent holdings = map (λ h. h.bundle) (filter (is_on agent) holdings)

-- the holding belongs to a client of the node
abbrev pub is_under : Path → Holding → Bool
is_under node h = begins_with (path_of h.client) node

-- the holding belongs to the client with that path
abbrev pub is_of : Path → Holding → Bool
is_of path h = same_path (path_of h.client) path

-- all holdings are valid bundles
abbrev pub AreBundles : List Holding → Type 0
AreBundles holdings = AllByRecursion (λ h. IsBundle h.bundle) holdings
