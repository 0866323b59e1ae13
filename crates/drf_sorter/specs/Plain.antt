-- The content of a `PlainSorter`.
use Rattle.std.specs.Prelude.{ℕ, List, filter, length, map, sum_by}
use Rattle.drf_bundle.specs.Quantities.{amount_of}
use Rattle.drf_role.specs.Path.{Path, begins_with}
use Rattle.drf_rows.specs.Share.{Standing}
use Rattle.drf_sorter.specs.Content.{Ranked, Content, active_paths, standing_in}
use Rattle.drf_sorter.specs.declared.client.Client.{Client}
use Rattle.drf_role.specs.Text.{Text}
use Rattle.drf_sorter.specs.declared.plain.PlainSorter.{PlainSorter}

-- a client as contracts see it
abbrev pub ranked : Client → Ranked
ranked c = record { path = c.path; active = c.active; held = amount_of c.held; count = c.count }

-- what the clients of a node hold of a scalar, in thousandths
abbrev pub held_by : List Client → Path → Text → ℕ
held_by clients node label = sum_by (λ c. amount_of c.held label) (filter (λ c. begins_with c.path node) clients)

-- the number of offers made to the clients of a node
abbrev pub count_by : List Client → Path → ℕ
count_by clients node = sum_by (λ c. c.count) (filter (λ c. begins_with c.path node) clients)

abbrev pub plain_content : PlainSorter → Content
plain_content sorter = record {
  clients = map ranked sorter.clients.items;
  total = sorter.total;
  weights = sorter.weights.rows.items;
}

-- what decides the order of the sorter's clients
abbrev pub plain_standing : PlainSorter → Standing
plain_standing sorter = standing_in (plain_content sorter)

-- the number of keys that an order needs: one for each node on the path of each active client
abbrev pub keys_to_make : Content → ℕ
keys_to_make content = sum_by length (active_paths content)
