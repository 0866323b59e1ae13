-- The sorter's lines are those of the report.
use Rattle.std.specs.Prelude.{◌≡◌, ◌≤◌, Bool, true, false, not, ◌&&◌, ◌||◌, IsTrue, List, [], ◌∷◌, length, map, fold, filter, flat_map}
use Rattle.std.specs.List.{AllByRecursion, list_any}
use Rattle.std.proofs.Common.{refl, sym, ap, subst, ◌∙◌, inl, inr, arith}
use Rattle.std.proofs.lemmas.Bool.{false≢true, false_from_ne_true, or_cases}
use Rattle.std.proofs.lemmas.List.Folds.{list_any-append}
use Rattle.drf_role.specs.Text.{Text}
use Rattle.drf_role.specs.Path.{Path, begins_with, same_path}
use Rattle.drf_role.specs.PathLaws.{same_path-true}
use Rattle.drf_bundle.specs.Bundle.{quantities_of}
use Rattle.drf_bundle.specs.Quantities.{is_in_order, plus, without_zeros}
use Rattle.drf_bundle.proofs.theorems.QuantitiesLaws.{amount-without_zeros, in_order-plus, no_zeros-without_zeros, same_quantities}
use Rattle.drf_bundle.specs.declared.quantities.Entry.{Entry}
use Rattle.drf_rows.specs.Client.{Client, path_of}
use Rattle.drf_rows.specs.Consistent.{IsConsistent}
use Rattle.drf_row_laws.proofs.ConsistentLaws.{bundles-consistent}
use Rattle.drf_rows.specs.Held.{client_of, clients_in, clients_of, cluster_total, held_by, standing_of}
use Rattle.drf_rows.specs.Holdings.{Holding, holdings_of, is_under}
use Rattle.drf_row_laws.specs.Laws.{paths_reported}
use Rattle.drf_rows.specs.Offers.{is_empty}
use Rattle.drf_rows.specs.Report.{held_under, node_line, nodes_of, report_of, terms_of}
use Rattle.drf_row_laws.proofs.ReportLaws.{amount-held_under, nodes_begin_paths, nodes_rise}
use Rattle.drf_rows.specs.Share.{Standing, share_of, weighted_share_of}
use Rattle.drf_rows.specs.declared.report.NodeLine.{NodeLine}
use Rattle.drf_rows.specs.declared.rows.ClientRow.{ClientRow}
use Rattle.drf_rows.specs.declared.rows.FrameworkRow.{FrameworkRow}
use Rattle.drf_rows.specs.declared.rows.Rows.{Rows}
use Rattle.drf_sorter.specs.Content.{HasNodes, Ranked, has_node}
use Rattle.drf_sorter.specs.Lines.{AreLinesOf, IsLineOf, has_line, paths_of}
use Rattle.drf_content.specs.Content.{content_of, ranked}
use Rattle.drf_content.proofs.theorems.Client.{ranked_all}
use Rattle.drf_content.proofs.theorems.Order.{standing-content_of}
use Rattle.drf_laws.proofs.theorems.Nodes.{same_in_order}

-- ---- which nodes have a line

same_tests : (a b : Bool) → (a ≡ true → b ≡ true) → (b ≡ true → a ≡ true) → a ≡ b
same_tests true b to from = sym (to refl)
same_tests false b to from = sym (false_from_ne_true b (λ is. false≢true (from is)))

-- a node has clients in the sorter exactly if it has clients in the rows
any_ranked : (hs : List Holding) (node : Path) (f : FrameworkRow) (cs : List ClientRow)
    → list_any (λ (r : Ranked). begins_with r.path node) (map (ranked hs f) cs)
    ≡ list_any (λ c. begins_with (path_of c) node) (map (client_of f) cs)
unfolding ranked
any_ranked hs node f [] = refl
any_ranked hs node f (c ∷ cs) = ap (λ (b : Bool). begins_with (path_of (client_of f c)) node || b) (any_ranked hs node f cs)

any_clients : (hs : List Holding) (node : Path) (fs : List FrameworkRow)
    → list_any (λ (r : Ranked). begins_with r.path node) (flat_map (ranked_all hs) fs)
    ≡ list_any (λ c. begins_with (path_of c) node) (clients_in fs)
any_clients hs node [] = refl
any_clients hs node (f ∷ fs) =
    list_any-append (λ (r : Ranked). begins_with r.path node) (ranked_all hs f) (flat_map (ranked_all hs) fs)
    ∙ (λ i. any_ranked hs node f f.clients i || any_clients hs node fs i)
    ∙ sym (list_any-append (λ (c : Client). begins_with (path_of c) node) (map (client_of f) f.clients) (clients_in fs))

has_node-content_of : (rows : Rows) (node : Path)
    → has_node (content_of rows) node ≡ list_any (λ c. begins_with (path_of c) node) (clients_of rows)
unfolding content_of
has_node-content_of rows node = any_clients (holdings_of rows) node rows.frameworks

not_empty : (node : Path) (b : Bool) → 1 ≤ length node → b ≡ true → (not (is_empty node) && b) ≡ true
not_empty [] b some is = absurd (omega arith)
not_empty (p ∷ ps) b some is = is

paths_again : (rows : Rows) (nodes : List Path) → map (λ line. line.path) (map (node_line rows) nodes) ≡ nodes
paths_again rows [] = refl
paths_again rows (n ∷ ns) = ap (λ (ps : List Path). n ∷ ps) (paths_again rows ns)

-- each node of the sorter's clients is reported
pub HasNodes-content_of : (rows : Rows) → HasNodes (content_of rows) (nodes_of rows)
unfolding report_of
HasNodes-content_of rows node some has =
    ap (list_any (same_path node)) (sym (paths_again rows (nodes_of rows)))
    ∙ nodes_begin_paths rows node
    ∙ not_empty node _ some (sym (has_node-content_of rows node) ∙ has)

module _ (rows : Rows) (lines : List NodeLine) (are : AreLinesOf (content_of rows) lines) where
  -- each line belongs to a node that has clients
  of_node : (ls : List NodeLine) → AllByRecursion (IsLineOf (content_of rows)) ls → (node : Path) → has_line ls node ≡ true
      → (1 ≤ length node) × (has_node (content_of rows) node ≡ true)
  of_node [] all node had = absurd (false≢true had)
  of_node (l ∷ ls) all node had = elim (or_cases (same_path node l.path) (has_line ls node) had) [
    | inl here ↦
        subst (λ (n : Path). (1 ≤ length n) × (has_node (content_of rows) n ≡ true)) (sym (same_path-true node l.path here))
        (all.0.some, all.0.clients)
    | inr past ↦ of_node ls all.1 node past
  ]

  with_parts : (node : Path) (b : Bool) → (not (is_empty node) && b) ≡ true → (1 ≤ length node) × (b ≡ true)
  with_parts [] b is = absurd (false≢true is)
  with_parts (p ∷ ps) b is = (omega arith, is)

  same_nodes : paths_of lines ≡ paths_reported rows
  same_nodes =
      same_in_order (paths_of lines) (paths_reported rows) are.in_order (nodes_rise rows) (λ node.
      same_tests (has_line lines node)
      (not (is_empty node) && list_any (λ c. begins_with (path_of c) node) (clients_of rows))
      (λ had. let node_is = of_node lines are.each node had in
      not_empty node _ node_is.0 (sym (has_node-content_of rows node) ∙ node_is.1))
      (λ reported. let parts = with_parts node _ reported in
      are.every node parts.0 (has_node-content_of rows node ∙ parts.1))
      ∙ sym (nodes_begin_paths rows node))

-- ---- the content of each line

in_order-sum : (start : List Entry) (hs : List Holding) → IsTrue (is_in_order start)
    → IsTrue (is_in_order (fold (λ sum h. plus sum (quantities_of h.bundle)) start hs))
in_order-sum start [] ordered = ordered
in_order-sum start (h ∷ hs) ordered = in_order-sum (plus start (quantities_of h.bundle)) hs (in_order-plus start (quantities_of h.bundle) ordered)

amount-standing_of : (rows : Rows) (node : Path) (label : Text) → (standing_of rows).held node label ≡ held_by rows node label
unfolding standing_of
amount-standing_of rows node label = refl

line_is : (rows : Rows) (line : NodeLine) → IsConsistent rows → IsLineOf (content_of rows) line → line ≡ node_line rows line.path
line_is rows line consistent is =
    let hs : List Holding = holdings_of rows in
    let whole : List Entry = held_under hs line.path in
    let ordered = in_order-sum [] (filter (is_under line.path) hs) refl in
    let standing = standing-content_of rows consistent in
    let held : line.held ≡ without_zeros whole =
    same_quantities line.held (without_zeros whole) is.no_zeros (no_zeros-without_zeros whole ordered) (λ label.
    is.held label ∙ ap (λ (s : Standing). s.held line.path label) standing ∙ amount-standing_of rows line.path label
    ∙ sym (amount-held_under hs line.path label (bundles-consistent rows consistent))
    ∙ sym (amount-without_zeros whole label ordered)) in
    let share = is.share ∙ ap (λ (s : Standing). terms_of (share_of s line.path)) standing in
    let weighted = is.weighted ∙ ap (λ (s : Standing). terms_of (weighted_share_of s line.path)) standing in
    let count = is.count ∙ ap (λ (s : Standing). s.count line.path) standing in
    λ i. record { path = line.path; held = held i; share = share i; weighted = weighted i; count = count i }

each_is : (rows : Rows) (lines : List NodeLine) → IsConsistent rows → AllByRecursion (IsLineOf (content_of rows)) lines
    → lines ≡ map (node_line rows) (paths_of lines)
each_is rows [] consistent all = refl
each_is rows (l ∷ ls) consistent all = λ i. line_is rows l consistent all.0 i ∷ each_is rows ls consistent all.1 i

pub report_of-lines : (rows : Rows) (total : List Entry) (lines : List NodeLine) → IsConsistent rows
    → total ≡ without_zeros (cluster_total rows.agents) → AreLinesOf (content_of rows) lines
    → record { total = total; nodes = lines } ≡ report_of rows
unfolding report_of
report_of-lines rows total lines consistent total_is are =
    let nodes : lines ≡ map (node_line rows) (nodes_of rows) =
    each_is rows lines consistent are.each ∙ ap (map (node_line rows)) (same_nodes rows lines are)
    ∙ ap (map (node_line rows)) (paths_again rows (nodes_of rows)) in
    λ i. record { total = total_is i; nodes = nodes i }
