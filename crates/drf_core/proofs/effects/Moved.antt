-- What the sorter holds after a reservation, a limit or a total changes. Also: the cases of refusal are the early ones, then the late ones.
use Rattle.std.proofs.Common.{◌≡◌, ◌≤◌, true, false, List, ◌++◌, Some, None, refl, sym, ap, ◌∙◌}
use Rattle.std.specs.Prelude.{not, filter}
use Rattle.std.proofs.lemmas.Bool.{not-false}
use Rattle.drf_role.specs.Text.{Text, same_text}
use Rattle.drf_role.specs.Path.{Path}
use Rattle.drf_bundle.specs.Bundle.{IsBundle, quantities_of, is_default, is_unreserved, relabel}
use Rattle.drf_bundle.specs.Quantities.{amount_of, plus}
use Rattle.drf_bundle.specs.declared.quantities.Entry.{Entry}
use Rattle.drf_bundle.specs.declared.resource.Resource.{Resource}
use Rattle.drf_rows.specs.LimitNumbers.{LimitNumbers}
use Rattle.drf_rows.specs.Consistent.{IsConsistent, IsAgent}
use Rattle.drf_rows.specs.Cycle.{free_of}
use Rattle.drf_rows.specs.Held.{cluster_total}
use Rattle.drf_rows.specs.Members.{has_agent}
use Rattle.drf_rows.specs.Quota.{limits_with}
use Rattle.drf_row_laws.specs.ReservationLaws.{IsAsked}
use Rattle.drf_row_laws.proofs.ReservationLaws.{can_move-reserve, can_move-unreserve, can_exchange-reserve, can_exchange-unreserve, found_known}
use Rattle.drf_rows.specs.Step.{cases_of, refusal_of, effect}
use Rattle.drf_rows.specs.Totals.{CanExchange, agent_at, exchanged, with_total, with_other_total}
use Rattle.drf_row_laws.proofs.TotalsLaws.{cluster_total-exchanged}
use Rattle.drf_row_laws.proofs.TotalsLaws.{cluster_total-other_total}
use Rattle.drf_rows.specs.declared.limits.TheConstants.{LARGEST_AMOUNT}
use Rattle.drf_rows.specs.declared.event.Event.{Event}
use Rattle.drf_rows.specs.declared.event.Event.TheVariants.{SetAgent, Reserve, Unreserve, SetLimit}
use Rattle.drf_rows.specs.declared.rows.AgentRow.{AgentRow}
use Rattle.drf_rows.specs.declared.rows.LimitRow.{LimitRow}
use Rattle.drf_rows.specs.declared.rows.Rows.{Rows}
use Rattle.drf_sorter.specs.Content.{Content, IsSame}
use Rattle.drf_sorter.proofs.theorems.SameLaws.{IsSame-between, IsSame-with_total}
use Rattle.drf_tables.specs.registry.Changing.{CanExchangeOn, CanHaveTotal}
use Rattle.drf_content.specs.Content.{content_of}
use Rattle.drf_core.specs.refusal.Cases.{early_cases_of, late_cases_of}
use Rattle.drf_laws.proofs.theorems.Welcome.{no_case_of, small_amounts}

-- the cases of an event are the early ones, then the late ones
pub early_and_late : (limits : LimitNumbers) (rows : Rows) (event : Event) → cases_of limits rows event ≡ early_cases_of limits rows event ++ late_cases_of limits rows event
early_and_late limits rows (SetAgent agent total) = refl
early_and_late limits rows event = refl

pub content_of-limits : (rows : Rows) (limits : List LimitRow) → content_of (record rows { limits = limits }) ≡ content_of rows
unfolding content_of
content_of-limits rows limits = refl

pub content_of-exchanged : (rows : Rows) (name : Text) (a : AgentRow) (old new : List Resource) → IsConsistent rows → agent_at rows name ≡ Some a
    → CanExchange (free_of rows a) old new → content_of (record rows { agents = with_total rows name (exchanged old new) }) ≡ content_of rows
unfolding content_of
content_of-exchanged rows name a old new consistent found can =
    let same = cluster_total-exchanged rows name a consistent found old new can in
    λ i. record { clients = (content_of rows).clients; total = same i; weights = rows.weights }

-- ---- a reservation is made or ended

module _ (limits : LimitNumbers) (rows : Rows) (agent : Text) (role : Path) (resources : List Resource) where
  module _ (none : refusal_of limits rows (Reserve agent role resources) ≡ None) where
    pub unreserved-reserve : is_unreserved resources ≡ true
    unreserved-reserve = (can_move-reserve limits rows agent role resources none).0.unreserved

    module _ (consistent : IsConsistent rows) (asked : IsAsked role resources) where
      pub exchange-reserve : CanExchangeOn rows agent resources (relabel role resources)
      exchange-reserve =
          let can = (can_move-reserve limits rows agent role resources none).0 in
          record { row = can.row; found = can.found; can = can_exchange-reserve rows agent role resources consistent asked can }

      pub content_of-reserved : content_of (effect rows (Reserve agent role resources)) ≡ content_of rows
      unfolding effect
      content_of-reserved =
          let can = exchange-reserve in
          content_of-exchanged rows agent can.row resources (relabel role resources) consistent can.found can.can

  module _ (none : refusal_of limits rows (Unreserve agent role resources) ≡ None) where
    pub unreserved-unreserve : is_unreserved resources ≡ true
    unreserved-unreserve = (can_move-unreserve limits rows agent role resources none).unreserved

    module _ (consistent : IsConsistent rows) (asked : IsAsked role resources) where
      pub exchange-unreserve : CanExchangeOn rows agent (relabel role resources) resources
      exchange-unreserve =
          let can = can_move-unreserve limits rows agent role resources none in
          record { row = can.row; found = can.found; can = can_exchange-unreserve rows agent role resources consistent asked can }

      pub content_of-unreserved : content_of (effect rows (Unreserve agent role resources)) ≡ content_of rows
      unfolding effect
      content_of-unreserved =
          let can = exchange-unreserve in
          content_of-exchanged rows agent can.row (relabel role resources) resources consistent can.found can.can

pub effect-reserved : (rows tables : Rows) (agent : Text) (role : Path) (resources moved : List Resource) → moved ≡ relabel role resources
    → tables ≡ record rows { agents = with_total rows agent (exchanged resources moved) } → tables ≡ effect rows (Reserve agent role resources)
unfolding effect
effect-reserved rows tables agent role resources moved is same =
    same ∙ (λ i. record rows { agents = with_total rows agent (exchanged resources (is i)) })

pub effect-unreserved : (rows tables : Rows) (agent : Text) (role : Path) (resources moved : List Resource) → moved ≡ relabel role resources
    → tables ≡ record rows { agents = with_total rows agent (exchanged moved resources) } → tables ≡ effect rows (Unreserve agent role resources)
unfolding effect
effect-unreserved rows tables agent role resources moved is same =
    same ∙ (λ i. record rows { agents = with_total rows agent (exchanged (is i) resources) })

-- ---- a total is replaced

module _ (limits : LimitNumbers) (rows : Rows) (agent : Text) (total : List Resource) (none : refusal_of limits rows (SetAgent agent total) ≡ None) where
  pub small-set_agent : (label : Text) → amount_of (quantities_of total) label ≤ LARGEST_AMOUNT
  small-set_agent label =
      small_amounts (quantities_of total) 1099511627775 label (no_case_of limits rows (SetAgent agent total) none).1.1.1.0

  pub total-set_agent : IsBundle total → CanHaveTotal rows agent total
  total-set_agent bundle =
      let no = no_case_of limits rows (SetAgent agent total) none in
      let at = found_known rows agent (not-false (has_agent rows agent) no.1.0) in
      record { row = at.0; found = at.1; bundle = bundle; small = small-set_agent; covered = no.1.1.0 }

pub content_of-other_total : (rows : Rows) (name : Text) (a : AgentRow) (total : List Resource) → IsConsistent rows → agent_at rows name ≡ Some a
    → IsAgent (record a { total = total })
    → content_of (record rows { agents = with_other_total rows name total })
    ≡ record (content_of rows) { total = plus (cluster_total (filter (λ b. not (same_text b.name name)) rows.agents)) (quantities_of total) }
unfolding content_of
content_of-other_total rows name a total consistent found right =
    let same = cluster_total-other_total rows name a total consistent found right in
    λ i. record { clients = (content_of rows).clients; total = sym same i; weights = rows.weights }

pub sorted-total : (rows tables : Rows) (agent : Text) (total : List Resource) (sum : List Entry) (before after : Content)
    → IsSame before (content_of rows) → IsConsistent rows → CanHaveTotal rows agent total
    → tables ≡ record rows { agents = with_other_total rows agent total }
    → sum ≡ plus (cluster_total (filter (λ b. not (same_text b.name agent)) rows.agents)) (quantities_of total)
    → after ≡ record before { total = sum }
    → IsSame after (content_of tables)
sorted-total rows tables agent total sum before after sorted consistent can same is set =
    IsSame-between after (record before { total = sum }) (record (content_of rows) { total = sum }) (content_of tables)
    set (IsSame-with_total before (content_of rows) sorted sum)
    ((λ i. record (content_of rows) { total = is i })
    ∙ sym (ap content_of same ∙ content_of-other_total rows agent can.row total consistent can.found (record { total = can.bundle; small = can.small })))

pub effect-total : (rows tables : Rows) (agent : Text) (total : List Resource)
    → tables ≡ record rows { agents = with_other_total rows agent total } → tables ≡ effect rows (SetAgent agent total)
unfolding effect
effect-total rows tables agent total same = same

-- ---- a limit is set

pub other-set_limit : (limits : LimitNumbers) (rows : Rows) (role : Path) (limit : List Entry) → refusal_of limits rows (SetLimit role limit) ≡ None
    → is_default role ≡ false
other-set_limit limits rows role limit none = (no_case_of limits rows (SetLimit role limit) none).1.0

pub effect-limit : (rows tables : Rows) (role : Path) (limit : List Entry) → tables ≡ record rows { limits = limits_with rows.limits role limit }
    → tables ≡ effect rows (SetLimit role limit)
unfolding effect
effect-limit rows tables role limit same = same

pub content_of-limit : (rows : Rows) (role : Path) (limit : List Entry) → content_of (effect rows (SetLimit role limit)) ≡ content_of rows
unfolding effect
content_of-limit rows role limit = content_of-limits rows (limits_with rows.limits role limit)
