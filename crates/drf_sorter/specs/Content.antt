-- The content of a sorter: clients with what they hold, the total of the cluster, and weights.
use Rattle.std.specs.Prelude.{◌≡◌, ℕ, ◌+◌, ◌-◌, ◌^◌, ◌<◌, ◌≤◌, Bool, true, not, List, [], ◌∷◌, ◌++◌, length, map, filter, sum_by, if◌then◌else◌, IsTrue}
use Rattle.std.specs.List.{list_any, AllByRecursion}
use Rattle.std.specs.List.Sorted.{IsPermutation}
use Rattle.drf_bundle.specs.Quantities.{amount_of}
use Rattle.drf_bundle.specs.declared.quantities.Entry.{Entry}
use Rattle.drf_role.specs.Path.{Path, same_path, begins_with}
use Rattle.drf_rows.specs.Share.{Standing, is_serving_order}
use Rattle.drf_rows.specs.Held.{weight_of}
use Rattle.drf_rows.specs.Weights.{weights_with}
use Rattle.drf_role.specs.Text.{Text}
use Rattle.drf_rows.specs.declared.rows.WeightRow.{WeightRow}

-- a client: its path, whether it is active, how much of each scalar it holds in thousandths, and the number of offers made to it
pub record Ranked : Type 0 where
  pub path : Path
  pub active : Bool
  pub held : Text → ℕ
  pub count : ℕ

-- everything that the order of clients depends on
pub record Content : Type 0 where
  pub clients : List Ranked
  pub total : List Entry
  pub weights : List WeightRow

-- the same clients in any order, the same total and the same weights
pub record IsSame (a b : Content) : Type 0 where
  pub clients : IsPermutation a.clients b.clients
  pub total : a.total ≡ b.total
  pub weights : a.weights ≡ b.weights

-- the empty content
abbrev pub empty : Content
empty = record { clients = []; total = []; weights = [] }

-- a client has this path
abbrev pub has_client : Content → Path → Bool
has_client content path = list_any (λ c. same_path c.path path) content.clients

-- a client is added after the others; it is active and holds nothing
abbrev pub with_client : Content → Path → Content
with_client content path = record content {
  clients = content.clients ++ record { path = path; active = true; held = λ _. 0; count = 0 } ∷ [];
}

-- the client with this path is removed, with all that it holds
abbrev pub without_client : Content → Path → Content
without_client content path = record content { clients = filter (λ c. not (same_path c.path path)) content.clients }

-- the client with this path is changed
abbrev pub with_change : Content → Path → (Ranked → Ranked) → Content
with_change content path change = record content {
  clients = map (λ c. if same_path c.path path then change c else c) content.clients;
}

-- the client is activated or suppressed
abbrev pub activated : Bool → Ranked → Ranked
activated active c = record c { active = active }

-- these quantities and a number of offers are added to a client
abbrev pub charged : List Entry → ℕ → Ranked → Ranked
charged quantities offers c =
    record c { held = λ label. c.held label + amount_of quantities label; count = c.count + offers }

-- a charge of one offer is undone
abbrev pub discharged : List Entry → Ranked → Ranked
discharged quantities c = record c { held = λ label. c.held label - amount_of quantities label; count = c.count - 1 }

-- these quantities are taken from a client; its count of offers stays the same
abbrev pub refunded : List Entry → Ranked → Ranked
refunded quantities c = record c { held = λ label. c.held label - amount_of quantities label }

-- the client holds at least these quantities
abbrev pub Holds : List Entry → Ranked → Type 0
Holds quantities c = (label : Text) → amount_of quantities label ≤ c.held label

-- the same for the client with this path
abbrev pub HoldsAt : Content → Path → List Entry → Type 0
HoldsAt content path quantities =
    AllByRecursion (λ c. same_path c.path path ≡ true → Holds quantities c) content.clients

-- the client holds at least these quantities, and was made at least one offer
pub record HasCharge (quantities : List Entry) (c : Ranked) : Type 0 where
  pub held : Holds quantities c
  pub count : 1 ≤ c.count

-- the same for the client with this path
abbrev pub HasChargeAt : Content → Path → List Entry → Type 0
HasChargeAt content path quantities =
    AllByRecursion (λ c. same_path c.path path ≡ true → HasCharge quantities c) content.clients

-- the role has a weight of its own
abbrev pub has_weight : Content → Path → Bool
has_weight content role = list_any (λ w. same_path w.role role) content.weights

-- the weight of a role is set
abbrev pub with_weight : Content → Path → ℕ → Content
with_weight content role weight = record content { weights = weights_with content.weights role weight }

-- the node has a client: the path of some client begins with the node's
abbrev pub has_node : Content → Path → Bool
has_node content node = list_any (λ c. begins_with c.path node) content.clients

-- these paths have each node with clients
abbrev pub HasNodes : Content → List Path → Type 0
HasNodes content nodes =
    (node : Path) → 1 ≤ length node → has_node content node ≡ true → list_any (same_path node) nodes ≡ true

-- the clients of a node
abbrev pub clients_under : Content → Path → List Ranked
clients_under content node = filter (λ c. begins_with c.path node) content.clients

-- what decides the order of clients
unfoldable pub standing_in : Content → Standing
standing_in content = record {
  held = λ node label. sum_by (λ c. c.held label) (clients_under content node);
  count = λ node. sum_by (λ c. c.count) (clients_under content node);
  total = content.total;
  weight = weight_of content.weights;
}

-- the held resources is within the total, and no number is too great
pub record IsSound (content : Content) : Type 0 where
  pub held : (label : Text) → sum_by (λ c. c.held label) content.clients ≤ amount_of content.total label
  pub total : (label : Text) → amount_of content.total label < 2 ^ 52
  pub count : sum_by (λ c. c.count) content.clients < 2 ^ 64

-- the paths of the active clients
abbrev pub active_paths : Content → List Path
active_paths content = map (λ c. c.path) (filter (λ c. c.active) content.clients)

-- the paths are the active clients, each once, and each before all later ones
pub record IsOrderOf (content : Content) (paths : List Path) : Type 0 where
  pub active : IsPermutation (active_paths content) paths
  pub in_order : IsTrue (is_serving_order (standing_in content) paths)
