-- The report: the cluster's total, and for each node of the tree of roles what its clients hold, with shares and count.
use Rattle.std.specs.Prelude.{ℕ, zero, suc, List, [], ◌∷◌, ◌++◌, length, take, map, fold, filter, flat_map}
use Rattle.std.specs.Ordering.{nat_cmp, match_ordering}
use Rattle.std.specs.declared.cmp.Ordering.{Ordering}
use Rattle.std.specs.Cmp.Lexicographic.{slice_cmp}
use Rattle.drf_role.specs.Path.{Path}
use Rattle.drf_bundle.specs.Bundle.{quantities_of}
use Rattle.drf_bundle.specs.Quantities.{plus, without_zeros}
use Rattle.drf_bundle.specs.declared.quantities.Entry.{Entry}
use Rattle.drf_rows.specs.Client.{path_of}
use Rattle.drf_rows.specs.Holdings.{Holding, holdings_of, is_under}
use Rattle.drf_rows.specs.Held.{clients_of, cluster_total, standing_of}
use Rattle.drf_rows.specs.Share.{Fraction, Standing, lowest_terms, share_of, weighted_share_of}
use Rattle.drf_rows.specs.declared.report.NodeLine.{NodeLine}
use Rattle.drf_rows.specs.declared.report.Report.{Report}
use Rattle.drf_rows.specs.declared.rows.Rows.{Rows}

-- ---- the nodes of the report

-- the order of paths: part by part, each part by its bytes; a prefix comes before longer paths
abbrev pub path_cmp : Path → Path → Ordering
path_cmp = slice_cmp (slice_cmp nat_cmp)

-- a sorted list of paths with one more; a path that is already in the list is not added again
abbrev pub with_node : List Path → Path → List Path
with_node [] node = node ∷ []
with_node (n ∷ ns) node = match_ordering (path_cmp node n) (node ∷ n ∷ ns) (n ∷ ns) (n ∷ with_node ns node)

-- the first n nodes of a path: its prefixes with 1, 2, .. n parts
abbrev pub nodes_to : Path → ℕ → List Path
nodes_to path zero = []
nodes_to path (suc n) = nodes_to path n ++ take (suc n) path ∷ []

-- all nodes of a path: its prefixes, and the path itself
abbrev pub nodes_on : Path → List Path
nodes_on path = nodes_to path (length path)

-- the nodes of all registered clients, each once, in order
abbrev pub nodes_of : Rows → List Path
nodes_of rows = fold with_node [] (flat_map (λ client. nodes_on (path_of client)) (clients_of rows))

-- ---- the line of a node

-- the sum of the scalars of some holdings
abbrev pub sum_of : List Holding → List Entry
sum_of holdings = fold (λ sum h. plus sum (quantities_of h.bundle)) [] holdings

-- what the clients of a node hold together
abbrev pub held_under : List Holding → Path → List Entry
held_under holdings node = sum_of (filter (is_under node) holdings)

-- part and whole of a fraction in lowest terms
abbrev pub terms_of : Fraction → ℕ × ℕ
terms_of f = ((lowest_terms f).part, (lowest_terms f).whole)

-- the line of a node whose clients hold `held`
abbrev pub line_by : Standing → Path → List Entry → NodeLine
line_by standing node held = record {
  path = node;
  held = without_zeros held;
  share = terms_of (share_of standing node);
  weighted = terms_of (weighted_share_of standing node);
  count = standing.count node;
}

-- the line of a node
abbrev pub node_line : Rows → Path → NodeLine
node_line rows node = line_by (standing_of rows) node (held_under (holdings_of rows) node)

-- the report
unfoldable pub report_of : Rows → Report
report_of rows = record {
  total = without_zeros (cluster_total rows.agents);
  nodes = map (node_line rows) (nodes_of rows);
}
