-- Consumption stays right through each change of agents.
use Rattle.std.specs.Map.{remove_entry}
use Rattle.std.proofs.Common.{refl, sym, ap, subst, arith, ◌≡◌, ◌+◌, ◌<◌, ◌≤◌, ◌^◌, Bool, false, not, List, filter, map, Option, Some, None, IfSome}
use Rattle.drf_tables.proofs.tables.Names.{Text, same_text, Path, same_path, quantities_of, plus, Entry, Resource, cluster_total, consumption_where, reserved_for, reserved_in, CanExchange, exchanged, with_other_total, with_total, Rows, Usage, used_by, used_where, CanExchangeOn, CanHaveTotal, HasOther, changed, with_exchanged, with_other, CountsAll, IsRaisedIf, reserved_at, Agent, Inside}
use Rattle.drf_row_laws.proofs.QuotaLaws.{consumption_is_part_of_total}
use Rattle.drf_row_laws.proofs.TotalsLaws.{can_in_total, is_agent}
use Rattle.drf_rows.specs.declared.limits.TheConstants.{LARGEST_AMOUNT}
use Rattle.drf_rows.specs.declared.rows.FilterRow.{FilterRow}
use Rattle.drf_tables.specs.Inside.{agent_row, rows_of, rows_in, AreDerived}
use Rattle.drf_tables.proofs.agents.Changes.{rows_but}
use Rattle.drf_tables.proofs.tables.Fields.{agents_in, total_fits}
use Rattle.drf_tables.proofs.reservations.Moved.{kept-other, rows-exchanged, rows-other}
use Rattle.drf_tables.proofs.limits.Recounted.{adds_counted, at_found, consumption-with_total, counted_so, counts-moved, counts-released, counts-replaced, replaces_fit, reserved-exchanged, reserved-is_part, reserved-part_le, reserved-small, reserved-without}

module _ (t : Inside) (entries : List (Text × Agent)) (same : entries ≡ t.agents.entries) where
  -- the rows with the same agents
  abbrev pub rows_still : Rows
  rows_still = rows_of entries t.frameworks.entries t.holdings t.filters t.weights.entries t.limits t.clock t.next_offer t.events

  pub kept-still : AreDerived (rows_in t) t.agents.entries t.total t.clients → AreDerived rows_still entries t.total t.clients
  kept-still kept =
      subst (λ (es : List (Text × Agent)).
      AreDerived (rows_of es t.frameworks.entries t.holdings t.filters t.weights.entries t.limits t.clock t.next_offer t.events) es t.total t.clients)
      (sym same) kept

  pub counts-alike : (after : Option (List Usage)) → CountsAll (rows_in t) after → CountsAll rows_still after
  counts-alike after counts =
      subst (λ (es : List (Text × Agent)).
      CountsAll (rows_of es t.frameworks.entries t.holdings t.filters t.weights.entries t.limits t.clock t.next_offer t.events) after)
      (sym same) counts

-- ---- an agent is removed

module _ (t : Inside) (counted : CountsAll (rows_in t) t.consumption) (name : Text) where
  -- what the agent has reserved can be subtracted
  abbrev AgentFits : List Usage → Type 0
  AgentFits used = (role : Path) (label : Text) → reserved_at (map agent_row t.agents.entries) name (same_path role) label ≤ used_by used role label

  pub agent_fits : IfSome t.consumption AgentFits
  agent_fits =
      counted_so (rows_in t) t.consumption counted AgentFits (λ used its role label.
      omega (
        arith,
        its (same_path role) label,
        reserved-without name t.agents.entries (same_path role) label,
        ap (λ agents. reserved_for (same_path role) agents label) (agents_in t),
      ))

  pub counts-left : (entries : List (Text × Agent)) (filters : List FilterRow) (after : Option (List Usage))
      → entries ≡ remove_entry (same_text name) t.agents.entries
      → IsRaisedIf after t.consumption (reserved_at (map agent_row t.agents.entries) name)
      → CountsAll (rows_but t entries t.frameworks.entries filters) after
  unfolding rows_of
  counts-left entries filters after taken released =
      counts-released (rows_in t) t.consumption counted (rows_but t entries t.frameworks.entries filters) after
      (reserved_at (map agent_row t.agents.entries) name) released
      (λ test label. omega (
        arith,
        reserved-without name t.agents.entries test label,
        ap (λ (es : List (Text × Agent)). reserved_for test (map agent_row es) label) taken,
      ))

-- ---- a part of an agent's total is replaced

module _ (t : Inside) (kept : AreDerived (rows_in t) t.agents.entries t.total t.clients) (counted : CountsAll (rows_in t) t.consumption)
    (name : Text) (old new : List Resource) (can : CanExchangeOn (rows_in t) name old new) where
  can_whole : CanExchange can.row.total old new
  can_whole = can_in_total (rows_in t) name can.row kept.consistent can.found old new can.can

  pub exchange_adds : IfSome t.consumption (λ used. (test : Path → Bool) (label : Text) → used_where test used label + reserved_in test label new < 2 ^ 64)
  exchange_adds =
      adds_counted (rows_in t) t.consumption counted (λ test label. reserved_in test label new) kept.consistent kept.few
      (λ test label. reserved-small can.row.total old new can_whole test label LARGEST_AMOUNT
      ((is_agent (rows_in t) name can.row kept.consistent can.found).small label))

  module _ (mid : Option (List Usage)) (raised : IsRaisedIf t.consumption mid (λ test label. reserved_in test label new)) where
    -- the replaced part was consumed before
    abbrev ExchangeFits : List Usage → Type 0
    ExchangeFits used = (role : Path) (label : Text) → reserved_in (same_path role) label old ≤ used_by used role label

    pub exchange_fits : IfSome mid ExchangeFits
    exchange_fits = by t.consumption counted mid raised
      where
        by : (b : Option (List Usage)) → CountsAll (rows_in t) b → (m : Option (List Usage))
            → IsRaisedIf b m (λ test label. reserved_in test label new) → IfSome m ExchangeFits
        by b counted' None raised' = tt
        by None counted' (Some m) raised' = absurd raised'
        by (Some b) counted' (Some m) raised' = λ role label.
            omega (
              arith,
              raised' (same_path role) label,
              counted'.each (same_path role) label,
              reserved-part_le can.row.total old new can_whole (same_path role) label,
              reserved-is_part (rows_in t) name can.row kept.consistent can.found (same_path role) label,
            )

    pub counts-exchanged : (entries : List (Text × Agent)) → entries ≡ map (changed name (with_exchanged old new)) t.agents.entries
        → (after : Option (List Usage)) → IsRaisedIf after mid (λ test label. reserved_in test label old)
        → CountsAll (rows_but t entries t.frameworks.entries t.filters) after
    counts-exchanged entries reported after released =
        subst (λ (r : Rows). CountsAll r after) (sym (rows-exchanged t kept name old new can entries reported))
        (counts-moved (rows_in t) t.consumption counted
        (record (rows_in t) { agents = with_total (rows_in t) name (exchanged old new) }) mid after
        (λ test label. reserved_in test label new) (λ test label. reserved_in test label old) raised released
        (λ test label. omega (
          arith,
          consumption-with_total (rows_in t) name can.row kept.consistent can.found test label (exchanged old new),
          reserved-exchanged can.row.total old new can_whole test label,
        )))

-- ---- the total of an agent is replaced

module _ (t : Inside) (kept : AreDerived (rows_in t) t.agents.entries t.total t.clients) (counted : CountsAll (rows_in t) t.consumption)
    (name : Text) (total : List Resource) (sum : List Entry) (right : CanHaveTotal (rows_in t) name total)
    (summed : sum ≡ plus (cluster_total (filter (λ a. not (same_text a.name name)) (rows_in t).agents)) (quantities_of total))
    (mid : Option (List Usage)) (released : IsRaisedIf mid t.consumption (reserved_at (map agent_row t.agents.entries) name)) where
  abbrev after_rows : Rows
  after_rows = record (rows_in t) { agents = with_other_total (rows_in t) name total }

  moves : (test : Path → Bool) (label : Text)
      → consumption_where test after_rows label + reserved_at (map agent_row t.agents.entries) name test label
      ≡ consumption_where test (rows_in t) label + reserved_in test label total
  moves test label =
      omega (
        arith,
        consumption-with_total (rows_in t) name right.row kept.consistent right.found test label (λ was. total),
        at_found (rows_in t) name right.row kept.consistent right.found test label,
        ap (λ agents. reserved_at agents name test label) (agents_in t),
      )

  fits : (test : Path → Bool) (label : Text) → consumption_where test after_rows label < 2 ^ 64
  fits test label =
      let made : List (Text × Agent) = map (changed name (with_other false total)) t.agents.entries in
      let reported : HasOther name total t.agents.entries made = record { kept = false; same = refl } in
      let still : AreDerived after_rows made sum t.clients =
      subst (λ (r : Rows). AreDerived r made sum t.clients) (rows-other t kept name total sum right summed made reported)
      (kept-other t kept name total sum right summed made reported) in
      omega (
        arith,
        consumption_is_part_of_total test after_rows label still.consistent,
        total_fits after_rows.agents label still.consistent.agents.each still.few,
      )

  pub other_fits : IfSome mid (λ used. (test : Path → Bool) (label : Text) → used_where test used label + reserved_in test label total < 2 ^ 64)
  other_fits =
      replaces_fit (rows_in t) t.consumption counted after_rows mid (reserved_at (map agent_row t.agents.entries) name)
      (λ test label. reserved_in test label total) released moves fits

  pub counts-other : (entries : List (Text × Agent)) → HasOther name total t.agents.entries entries
      → (after : Option (List Usage)) → IfSome after (λ used. IsRaisedIf mid (Some used) (λ test label. reserved_in test label total))
      → CountsAll (rows_but t entries t.frameworks.entries t.filters) after
  counts-other entries reported after raised =
      subst (λ (r : Rows). CountsAll r after) (sym (rows-other t kept name total sum right summed entries reported))
      (counts-replaced (rows_in t) t.consumption counted after_rows mid after
      (reserved_at (map agent_row t.agents.entries) name) (λ test label. reserved_in test label total) released raised moves)
