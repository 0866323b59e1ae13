-- What the sorter of an allocator holds for given rows.
use Rattle.std.specs.Prelude.{not, List, map, flat_map}
use Rattle.drf_rows.specs.Client.{path_of}
use Rattle.drf_rows.specs.Holdings.{Holding, holdings_of, held_where, is_of}
use Rattle.drf_rows.specs.Held.{client_of, cluster_total}
use Rattle.drf_rows.specs.declared.rows.ClientRow.{ClientRow}
use Rattle.drf_rows.specs.declared.rows.FrameworkRow.{FrameworkRow}
use Rattle.drf_rows.specs.declared.rows.Rows.{Rows}
use Rattle.drf_sorter.specs.Content.{Content, Ranked}

-- a client as a sorter holds it
unfoldable pub ranked : List Holding → FrameworkRow → ClientRow → Ranked
ranked holdings f c = record {
  path = path_of (client_of f c);
  active = not c.suppressed;
  held = held_where (is_of (path_of (client_of f c))) holdings;
  count = c.count;
}

-- all clients, the cluster's total, and the weights
unfoldable pub content_of : Rows → Content
content_of rows = record {
  clients = flat_map (λ f. map (ranked (holdings_of rows) f) f.clients) rows.frameworks;
  total = cluster_total rows.agents;
  weights = rows.weights;
}
