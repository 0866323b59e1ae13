-- What the rows say of registered clients, of what they hold, and of the cluster's total.
use Rattle.std.specs.Prelude.{ℕ, Bool, not, ◌&&◌, List, [], map, fold, filter, find, flat_map, sum_by}
use Rattle.std.specs.List.{list_any}
use Rattle.std.specs.Option.{option_map_or}
use Rattle.drf_role.specs.Text.{Text, same_text}
use Rattle.drf_role.specs.Path.{Path, same_path, begins_with}
use Rattle.drf_bundle.specs.Quantities.{plus}
use Rattle.drf_bundle.specs.Bundle.{quantities_of}
use Rattle.drf_bundle.specs.declared.quantities.Entry.{Entry}
use Rattle.drf_rows.specs.Client.{Client, path_of}
use Rattle.drf_rows.specs.Holdings.{holdings_of, held_where, is_under}
use Rattle.drf_rows.specs.Share.{Standing}
use Rattle.drf_rows.specs.declared.rows.AgentRow.{AgentRow}
use Rattle.drf_rows.specs.declared.rows.ClientRow.{ClientRow}
use Rattle.drf_rows.specs.declared.rows.FrameworkRow.{FrameworkRow}
use Rattle.drf_rows.specs.declared.rows.WeightRow.{WeightRow}
use Rattle.drf_rows.specs.declared.rows.Rows.{Rows}

-- the client of a row of a framework
abbrev pub client_of : FrameworkRow → ClientRow → Client
client_of framework client = record { role = client.role; framework = framework.name }

-- the clients of some frameworks
abbrev pub clients_in : List FrameworkRow → List Client
clients_in frameworks = flat_map (λ f. map (client_of f) f.clients) frameworks

-- the registered clients, in order of registration
abbrev pub clients_of : Rows → List Client
clients_of rows = clients_in rows.frameworks

-- the client is registered: its framework is, and has its role
abbrev pub is_registered : List FrameworkRow → Client → Bool
is_registered frameworks client =
    list_any (λ f. same_text f.name client.framework && list_any (λ c. same_path c.role client.role) f.clients) frameworks

-- the registered clients that are not suppressed
abbrev pub active_clients : Rows → List Client
active_clients rows = flat_map (λ f. map (client_of f) (filter (λ c. not c.suppressed) f.clients)) rows.frameworks

-- how much of a scalar the clients of a node hold, in thousandths
abbrev pub held_by : Rows → Path → Text → ℕ
held_by rows node label = held_where (is_under node) (holdings_of rows) label

-- how many offers the clients of a node have received
abbrev pub count_of : Rows → Path → ℕ
count_of rows node =
    sum_by (λ f. sum_by (λ c. c.count) (filter (λ c. begins_with (path_of (client_of f c)) node) f.clients)) rows.frameworks

-- the cluster's total: the sum of the scalars of all agents, active or not
abbrev pub cluster_total : List AgentRow → List Entry
cluster_total agents = fold (λ sum agent. plus sum (quantities_of agent.total)) [] agents

-- the weight of a node, in thousandths: that of its row, or 1000 if it has none
abbrev pub weight_of : List WeightRow → Path → ℕ
weight_of weights node = option_map_or (λ w. w.weight) (find (λ w. same_path w.role node) weights) 1000

-- what the order of clients depends on, computed from the rows
unfoldable pub standing_of : Rows → Standing
standing_of rows = record {
  held = held_by rows;
  count = count_of rows;
  total = cluster_total rows.agents;
  weight = weight_of rows.weights;
}
