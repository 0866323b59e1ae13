-- A report says of each node what its clients hold, and of the cluster what its agents have together; its nodes are
-- those of the registered clients, in order.
use Rattle.std.specs.Prelude.{◌≡◌, ℕ, zero, suc, ◌+◌, ◌≤◌, Bool, true, false, ◌||◌, List, [], ◌∷◌, length, map, take, drop, fold, filter, flat_map, sum_by, IsTrue}
use Rattle.std.specs.List.{list_all, list_any}
use Rattle.std.specs.Ordering.{nat_cmp, is_lt, is_eq, match_ordering, ordering_reverse}
use Rattle.std.specs.Cmp.Lexicographic.{slice_cmp, lists_total, lists_ties, texts_ties, bytes_decides, nat_list_cmp_total}
use Rattle.std.specs.declared.cmp.Ordering.{Ordering}
use Rattle.std.specs.declared.cmp.Ordering.TheVariants.{Less, Equal, Greater}
use Rattle.std.proofs.Common.{refl, sym, ap, ◌∙◌, inl, inr, ⊎_elim, arith, length-append}
use Rattle.std.proofs.Math.Seq.{take-append_seam}
use Rattle.std.proofs.Math.Bool.{or-false, or_assoc, or_self}
use Rattle.std.proofs.lemmas.Bool.{cases_Bool, cases_eq, and_from, and_parts, or_left, or_right, false_from_ne_true, false≢true}
use Rattle.std.proofs.lemmas.List.{take-append-drop}
use Rattle.std.proofs.lemmas.List.Folds.{list_any-append}
use Rattle.std.proofs.lemmas.List.Sums.{sum_by-cons}
use Rattle.std.proofs.lemmas.Slice.Eq.{starts_is}
use Rattle.drf_role.specs.Text.{Text}
use Rattle.drf_role.specs.TextLaws.{less_from_test}
use Rattle.drf_role.specs.Path.{Path, same_path, begins_with}
use Rattle.drf_role.specs.PathLaws.{same_path-true, same_path_itself}
use Rattle.drf_bundle.specs.Quantities.{plus, amount_of, is_in_order, HasNoZeros}
use Rattle.drf_bundle.proofs.theorems.QuantitiesLaws.{amount-plus, in_order-plus, amount-without_zeros, no_zeros-without_zeros}
use Rattle.drf_bundle.specs.Bundle.{IsBundle, quantities_of}
use Rattle.drf_bundle.proofs.theorems.UnitProofs.{quantities_no_zeros}
use Rattle.drf_bundle.specs.declared.quantities.Entry.{Entry}
use Rattle.drf_rows.specs.Client.{Client, path_of}
use Rattle.drf_rows.specs.Holdings.{Holding, holdings_of, held_where, amount_in, is_under, AreBundles}
use Rattle.drf_rows.specs.Held.{clients_of, cluster_total, count_of, held_by, standing_of}
use Rattle.drf_row_laws.proofs.MemberLaws.{amount-cluster_total}
use Rattle.drf_rows.specs.Report.{path_cmp, with_node, nodes_to, nodes_on, nodes_of, held_under, node_line, report_of}
use Rattle.drf_row_laws.proofs.ReportedShares.{in_order-cluster_total}
use Rattle.drf_row_laws.specs.Laws.{HeldIsReported, CountIsReported, TotalIsReported, AmountsAreAboveZero, NodesRise, NodesBeginPaths, are_in_order, paths_reported}
use Rattle.drf_bundle.proofs.ListLaws.{each_filter, each_made}
use Rattle.drf_rows.specs.declared.rows.Rows.{Rows}

-- ---- what a node holds

abbrev added : List Entry → List Holding → List Entry
added start hs = fold (λ sum h. plus sum (quantities_of h.bundle)) start hs

amount-added : (start : List Entry) (hs : List Holding) (label : Text) → AreBundles hs
    → amount_of (added start hs) label ≡ amount_of start label + sum_by (amount_in label) hs
amount-added start [] label all = omega arith
amount-added start (h ∷ hs) label all = omega (
  arith,
  amount-added (plus start (quantities_of h.bundle)) hs label all.1,
  amount-plus start (quantities_of h.bundle) label (quantities_no_zeros h.bundle all.0).in_order,
  sum_by-cons (amount_in label) h hs,
)

in_order-added : (start : List Entry) (hs : List Holding) → IsTrue (is_in_order start) → IsTrue (is_in_order (added start hs))
in_order-added start [] ordered = ordered
in_order-added start (h ∷ hs) ordered =
    in_order-added (plus start (quantities_of h.bundle)) hs (in_order-plus start (quantities_of h.bundle) ordered)

pub amount-held_under : (hs : List Holding) (node : Path) (label : Text) → AreBundles hs
    → amount_of (held_under hs node) label ≡ held_where (is_under node) hs label
amount-held_under hs node label all =
    omega (arith, amount-added [] (filter (is_under node) hs) label (each_filter (λ (h : Holding). IsBundle h.bundle) (is_under node) hs all))

pub held_is_reported : HeldIsReported
unfolding report_of
held_is_reported rows bundles =
    each_made (λ line. (label : Text) → amount_of line.held label ≡ held_by rows line.path label) (node_line rows) (nodes_of rows) by
  where
    by : (node : Path) (label : Text) → amount_of (node_line rows node).held label ≡ held_by rows node label
    by node label =
        let hs : List Holding = holdings_of rows in
        amount-without_zeros (held_under hs node) label (in_order-added [] (filter (is_under node) hs) refl)
        ∙ amount-held_under hs node label bundles

pub count_is_reported : CountIsReported
unfolding report_of standing_of
count_is_reported rows = each_made (λ line. line.count ≡ count_of rows line.path) (node_line rows) (nodes_of rows) (λ node. refl)

-- ---- amounts

pub total_is_reported : TotalIsReported
unfolding report_of
total_is_reported rows label agents =
    amount-without_zeros (cluster_total rows.agents) label (in_order-cluster_total rows.agents)
    ∙ amount-cluster_total rows.agents label agents

pub amounts_are_above_zero : AmountsAreAboveZero
unfolding report_of
amounts_are_above_zero rows = (
  no_zeros-without_zeros (cluster_total rows.agents) (in_order-cluster_total rows.agents),
  each_made (λ line. HasNoZeros line.held) (node_line rows) (nodes_of rows) (λ node.
      let hs : List Holding = filter (is_under node) (holdings_of rows) in
      no_zeros-without_zeros (added [] hs) (in_order-added [] hs refl)),
)

-- ---- the order of nodes

abbrev is_below : Path → Path → Bool
is_below a b = is_lt (path_cmp a b)

below_through : (a b c : Path) → is_below a b ≡ true → is_below b c ≡ true → is_below a c ≡ true
below_through a b c first second =
    ap is_lt ((lists_total nat_list_cmp_total).trans a b c (less_from_test (path_cmp a b) first) (less_from_test (path_cmp b c) second))

below_all : (a b : Path) (ns : List Path) → is_below a b ≡ true → list_all (is_below b) ns ≡ true → list_all (is_below a) ns ≡ true
below_all a b [] first all = refl
below_all a b (n ∷ ns) first all =
    let parts = and_parts (is_below b n) (list_all (is_below b) ns) all in
    and_from (is_below a n) (list_all (is_below a) ns) (below_through a b n first parts.0) (below_all a b ns first parts.1)

all_with : (p : Path → Bool) (ns : List Path) (n : Path) → p n ≡ true → list_all p ns ≡ true → list_all p (with_node ns n) ≡ true
all_with p [] n here all = and_from (p n) true here refl
all_with p (m ∷ ms) n here all = by (all_with p ms n here) (path_cmp n m)
  where
    by : (list_all p ms ≡ true → list_all p (with_node ms n) ≡ true) → (o : Ordering) → list_all p (match_ordering o (n ∷ m ∷ ms) (m ∷ ms) (m ∷ with_node ms n)) ≡ true
    by later Less = and_from (p n) (list_all p (m ∷ ms)) here all
    by later Equal = all
    by later Greater =
        let parts = and_parts (p m) (list_all p ms) all in
        and_from (p m) (list_all p (with_node ms n)) parts.0 (later parts.1)

in_order-with : (ns : List Path) (n : Path) → are_in_order ns ≡ true → are_in_order (with_node ns n) ≡ true
in_order-with [] n ordered = refl
in_order-with (m ∷ ms) n ordered = by (in_order-with ms n) (path_cmp n m) refl
  where
    by : (are_in_order ms ≡ true → are_in_order (with_node ms n) ≡ true) → (o : Ordering) → path_cmp n m ≡ o → are_in_order (match_ordering o (n ∷ m ∷ ms) (m ∷ ms) (m ∷ with_node ms n)) ≡ true
    by later Less is =
        let parts = and_parts (list_all (is_below m) ms) (are_in_order ms) ordered in
        let first : is_below n m ≡ true = ap is_lt is in
        and_from (list_all (is_below n) (m ∷ ms)) (are_in_order (m ∷ ms))
        (and_from (is_below n m) (list_all (is_below n) ms) first (below_all n m ms first parts.0)) ordered
    by later Equal is = ordered
    by later Greater is =
        let parts = and_parts (list_all (is_below m) ms) (are_in_order ms) ordered in
        let above : is_below m n ≡ true = ap is_lt ((lists_total nat_list_cmp_total).antisymm m n ∙ ap ordering_reverse is) in
        and_from (list_all (is_below m) (with_node ms n)) (are_in_order (with_node ms n))
        (all_with (is_below m) ms n above parts.0) (later parts.1)

in_order-put : (ns ms : List Path) → are_in_order ns ≡ true → are_in_order (fold with_node ns ms) ≡ true
in_order-put ns [] ordered = ordered
in_order-put ns (m ∷ ms) ordered = in_order-put (with_node ns m) ms (in_order-with ns m ordered)

-- the nodes of a report
reported : (rows : Rows) → paths_reported rows ≡ nodes_of rows
unfolding report_of
reported rows = by (nodes_of rows)
  where
    by : (nodes : List Path) → map (λ line. line.path) (map (node_line rows) nodes) ≡ nodes
    by [] = refl
    by (n ∷ ns) = λ i. n ∷ by ns i

pub nodes_rise : NodesRise
nodes_rise rows =
    ap are_in_order (reported rows) ∙ in_order-put [] (flat_map (λ client. nodes_on (path_of client)) (clients_of rows)) refl

-- ---- which nodes are in a report

or_moved : (a b d : Bool) → (a || (b || d)) ≡ ((b || a) || d)
or_moved true true d = refl
or_moved true false d = refl
or_moved false true d = refl
or_moved false false d = refl

or_swapped : (a b d : Bool) → (a || (b || d)) ≡ (b || (a || d))
or_swapped true true d = refl
or_swapped true false d = refl
or_swapped false b d = refl

tied : (a b : Path) → path_cmp a b ≡ Equal → a ≡ b
tied a b equal = same_path-true a b (lists_ties (slice_cmp nat_cmp) texts_ties a b ∙ ap is_eq equal)

any-with : (x : Path) (ns : List Path) (n : Path)
    → list_any (same_path x) (with_node ns n) ≡ (same_path x n || list_any (same_path x) ns)
any-with x [] n = refl
any-with x (m ∷ ms) n = by (any-with x ms n) (path_cmp n m) refl
  where
    by : list_any (same_path x) (with_node ms n) ≡ (same_path x n || list_any (same_path x) ms)
        → (o : Ordering) → path_cmp n m ≡ o
        → list_any (same_path x) (match_ordering o (n ∷ m ∷ ms) (m ∷ ms) (m ∷ with_node ms n))
        ≡ (same_path x n || (same_path x m || list_any (same_path x) ms))
    by later Less is = refl
    by later Equal is =
        ap (λ (b : Bool). b || list_any (same_path x) ms) (sym (or_self (same_path x m)))
        ∙ or_assoc (same_path x m) (same_path x m) (list_any (same_path x) ms)
        ∙ ap (λ (p : Path). same_path x p || (same_path x m || list_any (same_path x) ms)) (sym (tied n m is))
    by later Greater is =
        ap (λ (b : Bool). same_path x m || b) later ∙ or_swapped (same_path x m) (same_path x n) (list_any (same_path x) ms)

any-put : (x : Path) (ns ms : List Path)
    → list_any (same_path x) (fold with_node ns ms) ≡ (list_any (same_path x) ms || list_any (same_path x) ns)
any-put x ns [] = refl
any-put x ns (m ∷ ms) =
    any-put x (with_node ns m) ms
    ∙ ap (λ (b : Bool). list_any (same_path x) ms || b) (any-with x ns m)
    ∙ or_moved (list_any (same_path x) ms) (same_path x m) (list_any (same_path x) ns)

pub begins_take : (path : Path) (n : ℕ) → begins_with path (take n path) ≡ true
begins_take path n =
    (starts_is bytes_decides path (take n path) (begins_with path (take n path)) refl).1 (drop n path) (sym (take-append-drop n path))

any-later : (x path : Path) (n : ℕ)
    → list_any (same_path x) (nodes_to path (suc n)) ≡ (list_any (same_path x) (nodes_to path n) || (same_path x (take (suc n) path) || false))
any-later x path n = list_any-append (same_path x) (nodes_to path n) (take (suc n) path ∷ [])

none_to : (x path : Path) (n : ℕ) → begins_with path x ≡ false → list_any (same_path x) (nodes_to path n) ≡ false
none_to x path zero other = refl
none_to x path (suc n) other =
    let apart : same_path x (take (suc n) path) ≡ false =
    false_from_ne_true (same_path x (take (suc n) path)) (λ same.
    absurd (false≢true (sym other ∙ ap (begins_with path) (same_path-true x (take (suc n) path) same) ∙ begins_take path (suc n)))) in
    any-later x path n ∙ (λ i. none_to x path n other i || (apart i || false))

some_to : (path : Path) (n m : ℕ) → 1 ≤ m → m ≤ n → list_any (same_path (take m path)) (nodes_to path n) ≡ true
some_to path zero m some within = absurd (omega arith)
some_to path (suc n) m some within =
    any-later (take m path) path n
    ∙ ⊎_elim
    (λ (last : m ≡ suc n).
    or_right (list_any (same_path (take m path)) (nodes_to path n)) (same_path (take m path) (take (suc n) path) || false)
    (or_left (same_path (take m path) (take (suc n) path)) false
    (ap (λ (k : ℕ). same_path (take m path) (take k path)) (sym last) ∙ same_path_itself (take m path))))
    (λ (other : m ≡ suc n → ⊥).
    or_left (list_any (same_path (take m path)) (nodes_to path n)) (same_path (take m path) (take (suc n) path) || false)
    (some_to path n m some (omega arith)))
    (cases_eq m (suc n))

any-on_path : (x path : Path) → 1 ≤ length x → list_any (same_path x) (nodes_on path) ≡ begins_with path x
any-on_path x path some = elim (cases_Bool (begins_with path x)) [
  | inl begins ↦
      let whole = (starts_is bytes_decides path x (begins_with path x) refl).0 begins in
      let prefix : take (length x) path ≡ x =
      ap (take (length x)) whole ∙ take-append_seam x (drop (length x) path) in
      let short : length x ≤ length path = omega (arith, ap length whole, length-append x (drop (length x) path)) in
      ap (λ (p : Path). list_any (same_path p) (nodes_on path)) (sym prefix)
      ∙ some_to path (length path) (length x) some short ∙ sym begins
  | inr other ↦ none_to x path (length path) other ∙ sym other
]

any-clients : (x : Path) (cs : List Client) → 1 ≤ length x
    → list_any (same_path x) (flat_map (λ client. nodes_on (path_of client)) cs) ≡ list_any (λ c. begins_with (path_of c) x) cs
any-clients x [] some = refl
any-clients x (c ∷ cs) some =
    list_any-append (same_path x) (nodes_on (path_of c)) (flat_map (λ client. nodes_on (path_of client)) cs)
    ∙ (λ i. any-on_path x (path_of c) some i || any-clients x cs some i)

-- the empty path is not a node
empty_to : (path : Path) (n : ℕ) → n ≤ length path → list_any (same_path []) (nodes_to path n) ≡ false
empty_to path zero within = refl
empty_to [] (suc n) within = absurd (omega arith)
empty_to (p ∷ ps) (suc n) within = any-later [] (p ∷ ps) n ∙ ap (λ (b : Bool). b || false) (empty_to (p ∷ ps) n (omega arith))

empty_clients : (cs : List Client) → list_any (same_path []) (flat_map (λ client. nodes_on (path_of client)) cs) ≡ false
empty_clients [] = refl
empty_clients (c ∷ cs) =
    list_any-append (same_path []) (nodes_on (path_of c)) (flat_map (λ client. nodes_on (path_of client)) cs)
    ∙ (λ i. empty_to (path_of c) (length (path_of c)) (omega arith) i || empty_clients cs i)

any-nodes : (node : Path) (rows : Rows)
    → list_any (same_path node) (nodes_of rows) ≡ list_any (same_path node) (flat_map (λ client. nodes_on (path_of client)) (clients_of rows))
any-nodes node rows =
    any-put node [] (flat_map (λ client. nodes_on (path_of client)) (clients_of rows))
    ∙ or-false (list_any (same_path node) (flat_map (λ client. nodes_on (path_of client)) (clients_of rows)))

pub nodes_begin_paths : NodesBeginPaths
nodes_begin_paths rows [] =
    ap (list_any (same_path [])) (reported rows) ∙ any-nodes [] rows ∙ empty_clients (clients_of rows)
nodes_begin_paths rows (p ∷ ps) =
    ap (list_any (same_path (p ∷ ps))) (reported rows) ∙ any-nodes (p ∷ ps) rows ∙ any-clients (p ∷ ps) (clients_of rows) (omega arith)
