-- No more is held than the agents' totals.
use Rattle.std.specs.Prelude.{◌≡◌, ℕ, ◌≤◌, List, sum_by}
use Rattle.std.specs.List.{count_by, list_any}
use Rattle.std.proofs.Common.{◌∙◌, arith}
use Rattle.drf_role.specs.Text.{Text, same_text}
use Rattle.drf_bundle.specs.Quantities.{amount_of}
use Rattle.drf_rows.specs.Holdings.{Holding, holdings_of, held_where, amount_in, is_on}
use Rattle.drf_rows.specs.Held.{cluster_total}
use Rattle.drf_rows.specs.Consistent.{IsAgent, IsCovered, IsHeld, IsConsistent}
use Rattle.drf_row_laws.proofs.ConsistentLaws.{same_text-swap, count_named, bundles-consistent, held_on-le}
use Rattle.drf_bundle.proofs.ListLaws.{sum_by_each_le, sum_by-groups, count_by-any, each_from, each_from_both}
use Rattle.drf_row_laws.proofs.MemberLaws.{amount_on, amount-cluster_total}
use Rattle.drf_rows.specs.declared.rows.AgentRow.{AgentRow}
use Rattle.drf_rows.specs.declared.rows.Rows.{Rows}

-- a holding is on exactly one agent
pub one_agent : (rows : Rows) (h : Holding) → IsConsistent rows → IsHeld rows.agents rows.frameworks h
    → count_by (λ a. is_on a.name h) rows.agents ≡ 1
one_agent rows h consistent held =
    let known = (λ i. list_any (λ a. same_text-swap h.agent a.name i) rows.agents) ∙ held.agent in
    omega (
      arith,
      count_by-any (λ a. same_text h.agent a.name) rows.agents known,
      count_named (λ a. a.name) h.agent rows.agents consistent.agents.names,
    )

pub held-le-total : (rows : Rows) (label : Text) → IsConsistent rows
    → sum_by (amount_in label) (holdings_of rows) ≤ amount_of (cluster_total rows.agents) label
held-le-total rows label consistent =
    let hs : List Holding = holdings_of rows in
    let on : AgentRow → ℕ = λ a. held_where (is_on a.name) hs label in
    let by_agent = sum_by-groups (amount_in label) (λ (h : Holding) (a : AgentRow). is_on a.name h) rows.agents hs
    (each_from (IsHeld rows.agents rows.frameworks) (λ h. count_by (λ a. is_on a.name h) rows.agents ≡ 1) hs
    (λ h held. one_agent rows h consistent held) consistent.holdings) in
    let Covers : AgentRow → Type 0 = λ a. on a ≤ amount_on label a in
    let covered = each_from_both IsAgent (IsCovered hs) Covers rows.agents
    (λ a right here. held_on-le rows a label (bundles-consistent rows consistent) right here) consistent.agents.each consistent.covered in
    omega (
      arith,
      by_agent,
      sum_by_each_le on (amount_on label) rows.agents covered,
      amount-cluster_total rows.agents label consistent.agents.each,
    )
