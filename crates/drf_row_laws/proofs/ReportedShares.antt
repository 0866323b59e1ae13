-- Reported shares are in lowest terms: the wholes of their fractions are neither 0 nor too large.
use Rattle.std.specs.Prelude.{ℕ, ◌*◌, ◌^◌, ◌<◌, ◌≤◌, IsTrue, List, [], ◌∷◌, length, map, fold, filter, sum_by, nat_lt}
use Rattle.std.specs.List.{AllByRecursion, list_all}
use Rattle.std.proofs.Common.{refl, sym, ap, ◌∙◌, inl, inr, arith}
use Rattle.std.proofs.Math.Nat.{mul-le-mul_left}
use Rattle.std.proofs.lemmas.Bool.{cases_Bool, and_parts, ltb-true}
use Rattle.std.proofs.lemmas.List.Sums.{sum_by-cons}
use Rattle.drf_role.specs.Text.{Text, text_below}
use Rattle.drf_role.proofs.TextLaws.{cases_same}
use Rattle.drf_role.specs.Path.{Path}
use Rattle.drf_bundle.specs.Quantities.{plus, amount_of, is_in_order}
use Rattle.drf_bundle.proofs.theorems.QuantitiesLaws.{amount_first, amount_head, in_order-plus}
use Rattle.drf_bundle.specs.Bundle.{quantities_of}
use Rattle.drf_bundle.specs.declared.quantities.Entry.{Entry}
use Rattle.drf_rows.specs.LimitNumbers.{ceilings}
use Rattle.drf_rows.specs.Held.{cluster_total, standing_of, weight_of}
use Rattle.drf_rows.specs.Weights.{are_weights}
use Rattle.drf_row_laws.proofs.WeightLaws.{weight_of-in_range}
use Rattle.drf_rows.specs.Share.{Fraction, is_less, greater, greatest, share_of, weighted_share_of}
use Rattle.drf_row_laws.proofs.LowestLaws.{lowest_terms-is}
use Rattle.drf_rows.specs.Report.{report_of, node_line, nodes_of}
use Rattle.drf_rows.specs.Consistent.{IsAgent}
use Rattle.drf_row_laws.proofs.MemberLaws.{amount_on, amount-cluster_total}
use Rattle.drf_bundle.proofs.ListLaws.{each_made}
use Rattle.drf_row_laws.specs.Laws.{ReportsLowest, SharesAreLowest}
use Rattle.drf_rows.specs.declared.limits.TheConstants.{LARGEST_AMOUNT}
use Rattle.drf_rows.specs.declared.rows.AgentRow.{AgentRow}
use Rattle.drf_rows.specs.declared.rows.Rows.{Rows}

-- ---- the total

-- its labels are in order
in_order-added : (start : List Entry) (agents : List AgentRow) → IsTrue (is_in_order start)
    → IsTrue (is_in_order (fold (λ sum agent. plus sum (quantities_of agent.total)) start agents))
in_order-added start [] ordered = ordered
in_order-added start (a ∷ agents) ordered =
    in_order-added (plus start (quantities_of a.total)) agents (in_order-plus start (quantities_of a.total) ordered)

pub in_order-cluster_total : (agents : List AgentRow) → IsTrue (is_in_order (cluster_total agents))
in_order-cluster_total agents = in_order-added [] agents refl

-- few agents with small amounts have a small sum
sum-few : (agents : List AgentRow) (label : Text) → AllByRecursion IsAgent agents
    → sum_by (amount_on label) agents ≤ length agents * LARGEST_AMOUNT
sum-few [] label all = omega arith
sum-few (a ∷ agents) label all =
    omega (arith, sum_by-cons (amount_on label) a agents, all.0.small label, sum-few agents label all.1)

pub small_total : (agents : List AgentRow) (label : Text) → AllByRecursion IsAgent agents → length agents ≤ ceilings.agents
    → amount_of (cluster_total agents) label < 2 ^ 52
small_total agents label all few =
    omega (arith, amount-cluster_total agents label all, sum-few agents label all, few)

-- in a sorted list each amount is that of its label
pub small_entries : (es : List Entry) → IsTrue (is_in_order es) → ((label : Text) → amount_of es label < 2 ^ 52)
    → AllByRecursion (λ e. e.amount < 2 ^ 52) es
small_entries [] ordered small = tt
small_entries (e ∷ es) ordered small =
    let parts = and_parts (list_all (λ f. text_below e.label f.label) es) (is_in_order es) ordered in
    let later : (label : Text) → amount_of es label < 2 ^ 52 = λ label. elim (cases_same e.label label) [
      | inl same ↦ omega (arith, ap (amount_of es) (sym same.1) ∙ amount_first e.label es parts.0)
      | inr other ↦ rw other.0 at (small label)
    ] in
    (omega (arith, amount_head e es, small e.label), small_entries es parts.1 later)

-- ---- the fractions

-- a fraction whose whole is neither 0 nor too large
pub record IsPart (f : Fraction) : Type 0 where
  pub some : 1 ≤ f.whole
  pub small : f.whole < 2 ^ 52

part_of_greater : (a b : Fraction) → IsPart a → IsPart b → IsPart (greater a b)
part_of_greater a b first second = elim (cases_Bool (is_less a b)) [
  | inl less ↦ rw less second
  | inr not_less ↦ rw not_less first
]

abbrev parts_by : (Text → ℕ) → List Entry → List Fraction
parts_by held es = map (λ e. record { part = held e.label; whole = e.amount }) (filter (λ e. nat_lt 0 e.amount) es)

pub part_of_greatest : (held : Text → ℕ) (es : List Entry) → AllByRecursion (λ e. e.amount < 2 ^ 52) es
    → IsPart (greatest (parts_by held es))
part_of_greatest held [] small = record { some = omega arith; small = omega arith }
part_of_greatest held (e ∷ es) small = elim (cases_Bool (nat_lt 0 e.amount)) [
  | inl some ↦ rw some
      (part_of_greater (record { part = held e.label; whole = e.amount }) (greatest (parts_by held es))
      (record { some = ltb-true 0 e.amount some; small = small.0 })
      (part_of_greatest held es small.1))
  | inr none ↦ rw none (part_of_greatest held es small.1)
]

-- ---- the lines

module _ (rows : Rows) (agents : AllByRecursion IsAgent rows.agents) (few : length rows.agents ≤ ceilings.agents) where
  part_of_share : (node : Path) → IsPart (share_of (standing_of rows) node)
  unfolding standing_of
  part_of_share node =
      part_of_greatest ((standing_of rows).held node) (cluster_total rows.agents)
      (small_entries (cluster_total rows.agents) (in_order-cluster_total rows.agents)
      (λ label. small_total rows.agents label agents few))

  lowest-line : IsTrue (are_weights rows.weights) → (node : Path) → ReportsLowest rows (node_line rows node)
  unfolding standing_of
  lowest-line weights node =
      let share : Fraction = share_of (standing_of rows) node in
      let weighted : Fraction = weighted_share_of (standing_of rows) node in
      let weight : ℕ = weight_of rows.weights node in
      let part = part_of_share node in
      let range = weight_of-in_range rows.weights node weights in
      let some = mul-le-mul_left share.whole range.0 in
      let most = mul-le-mul_left share.whole range.1 in
      record {
        share = lowest_terms-is share part.some (omega (arith, part.small));
        weighted = lowest_terms-is weighted (omega (arith, part.some, some)) (omega (arith, part.small, most));
      }

pub shares_are_lowest : SharesAreLowest
unfolding report_of
shares_are_lowest rows agents few weights =
    each_made (ReportsLowest rows) (node_line rows) (nodes_of rows) (lowest-line rows agents few weights)
