-- The sorter's order of the clients is the order of a turn.
use Rattle.std.specs.Prelude.{◌≡◌, ℕ, Bool, not, IsTrue, List, [], ◌∷◌, ◌++◌, map, filter, flat_map, sum_by}
use Rattle.std.specs.List.Sorted.{IsPermutation}
use Rattle.std.proofs.Common.{refl, sym, ap, subst, ◌∙◌, inl, inr, cond}
use Rattle.std.proofs.lemmas.Bool.{cases_Bool}
use Rattle.std.proofs.lemmas.List.{map-append}
use Rattle.std.proofs.lemmas.List.Elements.{filter-append}
use Rattle.drf_role.specs.Text.{Text}
use Rattle.drf_role.specs.Path.{Path, begins_with}
use Rattle.drf_role.specs.PathLaws.{same_path-true}
use Rattle.drf_rows.specs.Client.{path_of}
use Rattle.drf_rows.specs.Holdings.{Holding, holdings_of, held_where, amount_in, is_of, is_under}
use Rattle.drf_rows.specs.Held.{client_of, active_clients, held_by, count_of, cluster_total, weight_of}
use Rattle.drf_rows.specs.Share.{Standing, is_serving_order}
use Rattle.drf_rows.specs.Cycle.{turn_order}
use Rattle.drf_row_laws.proofs.ServingOrder.{serving_order-unique}
use Rattle.drf_rows.specs.Consistent.{IsConsistent}
use Rattle.drf_bundle.proofs.ListLaws.{sum_by-filter, sum_by-as_one}
use Rattle.drf_rows.specs.declared.rows.ClientRow.{ClientRow}
use Rattle.drf_rows.specs.declared.rows.FrameworkRow.{FrameworkRow}
use Rattle.drf_rows.specs.declared.rows.Rows.{Rows}
use Rattle.drf_sorter.specs.Content.{Ranked, IsOrderOf, active_paths, clients_under}
use Rattle.drf_content.specs.Content.{ranked, content_of}
use Rattle.drf_content.proofs.theorems.Client.{ranked_all}
use Rattle.drf_content.proofs.theorems.Held.{sum_ranked, sum_held}
use Rattle.drf_rows.specs.Held as rows_word
use Rattle.drf_sorter.specs.Content as sorter_word
use Rattle.drf_laws.proofs.theorems.Turns.{active_in}

-- ---- holdings and counts of nodes

-- what a holding contributes to a node
abbrev part_of : Path → Text → Holding → ℕ
part_of node label h = cond (is_under node h) (amount_in label h) 0

-- a client contributes all that it holds to its nodes, and nothing to others
client_part : (hs : List Holding) (node path : Path) (label : Text)
    → sum_by (part_of node label) (filter (is_of path) hs)
    ≡ cond (begins_with path node) (held_where (is_of path) hs label) 0
client_part hs node path label =
    sum_by-as_one (amount_in label) (is_of path) (is_under node) (begins_with path node) hs
    (λ h same. ap (λ (p : Path). begins_with p node) (same_path-true (path_of h.client) path same))

held_by-content_of : (rows : Rows) (node : Path) (label : Text) → IsConsistent rows
    → sum_by (λ c. c.held label) (clients_under (content_of rows) node) ≡ held_by rows node label
unfolding content_of ranked
held_by-content_of rows node label consistent =
    let hs : List Holding = holdings_of rows in
    let holds : Ranked → ℕ = λ r. cond (begins_with r.path node) (r.held label) 0 in
    let parts : Ranked → ℕ = λ r. sum_by (part_of node label) (filter (is_of r.path) hs) in
    let own = λ (path : Path). client_part hs node path label in
    sum_by-filter (λ (r : Ranked). r.held label) (λ (r : Ranked). begins_with r.path node) (content_of rows).clients
    ∙ sum_ranked holds hs rows.frameworks
    ∙ sym (λ i. sum_by (λ f. sum_by (λ c. own (path_of (client_of f c)) i) f.clients) rows.frameworks)
    ∙ sym (sum_ranked parts hs rows.frameworks)
    ∙ sum_held (part_of node label) rows consistent
    ∙ sym (sum_by-filter (amount_in label) (is_under node) hs)

count_of-content_of : (rows : Rows) (node : Path)
    → sum_by (λ c. c.count) (clients_under (content_of rows) node) ≡ count_of rows node
unfolding content_of ranked
count_of-content_of rows node =
    let count : ClientRow → ℕ = λ c. c.count in
    let under : FrameworkRow → ClientRow → Bool = λ f c. begins_with (path_of (client_of f c)) node in
    sum_by-filter (λ (r : Ranked). r.count) (λ (r : Ranked). begins_with r.path node) (content_of rows).clients
    ∙ sum_ranked (λ (r : Ranked). cond (begins_with r.path node) r.count 0) (holdings_of rows) rows.frameworks
    ∙ sym (λ i. sum_by (λ f. sum_by-filter count (under f) f.clients i) rows.frameworks)

-- what orders nodes (held amounts, counts, total, weights) is the same in the sorter and in the rows
pub standing-content_of : (rows : Rows) → IsConsistent rows
    → sorter_word.standing_in (content_of rows) ≡ rows_word.standing_of rows
unfolding sorter_word.standing_in rows_word.standing_of content_of
standing-content_of rows consistent = λ i. record {
  held = λ node label. held_by-content_of rows node label consistent i;
  count = λ node. count_of-content_of rows node i;
  total = cluster_total rows.agents;
  weight = weight_of rows.weights;
}

-- ---- active clients

-- the paths of the active clients among some clients
abbrev served : List Ranked → List Path
served rs = map (λ c. c.path) (filter (λ c. c.active) rs)

served_each : (hs : List Holding) (f : FrameworkRow) (cs : List ClientRow)
    → served (map (ranked hs f) cs) ≡ map path_of (map (client_of f) (filter (λ c. not c.suppressed) cs))
unfolding ranked
served_each hs f [] = refl
served_each hs f (c ∷ cs) = elim (cases_Bool (not c.suppressed)) [
  | inl here ↦ rw here (ap (λ ps. path_of (client_of f c) ∷ ps) (served_each hs f cs))
  | inr past ↦ rw past (served_each hs f cs)
]

served_all : (hs : List Holding) (fs : List FrameworkRow)
    → served (flat_map (ranked_all hs) fs) ≡ map path_of (flat_map active_in fs)
served_all hs [] = refl
served_all hs (f ∷ fs) =
    let first : List Ranked = ranked_all hs f in
    let later : List Ranked = flat_map (ranked_all hs) fs in
    ap (map (λ (r : Ranked). r.path)) (filter-append (λ (r : Ranked). r.active) first later)
    ∙ map-append (λ (r : Ranked). r.path) (filter (λ r. r.active) first) (filter (λ r. r.active) later)
    ∙ (λ i. served_each hs f f.clients i ++ served_all hs fs i)
    ∙ sym (map-append path_of (active_in f) (flat_map active_in fs))

active_paths-content_of : (rows : Rows) → active_paths (content_of rows) ≡ map path_of (active_clients rows)
unfolding content_of
active_paths-content_of rows = served_all (holdings_of rows) rows.frameworks

-- the sorter's order is the order of a turn
pub IsOrderOf-turn_order : (rows : Rows) (paths : List Path)
    → IsConsistent rows → IsOrderOf (content_of rows) paths → paths ≡ map path_of (turn_order rows)
IsOrderOf-turn_order rows paths consistent order =
    let standing : Standing = rows_word.standing_of rows in
    let moved : IsPermutation (map path_of (active_clients rows)) paths
    = subst (λ ps. IsPermutation ps paths) (active_paths-content_of rows) order.active in
    let ordered : IsTrue (is_serving_order standing paths)
    = subst (λ s. IsTrue (is_serving_order s paths)) (standing-content_of rows consistent) order.in_order in
    sym (serving_order-unique standing (active_clients rows) paths moved ordered)
