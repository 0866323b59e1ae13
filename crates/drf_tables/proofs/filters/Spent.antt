-- The rows after expired filters are removed.
use Rattle.std.proofs.lemmas.List.Sums.{length-filter}
use Rattle.std.proofs.Common.{refl, sym, ap, ◌∙◌, subst, ◌≡◌, List, length}
use Rattle.drf_rows.specs.Filters.{is_in_force, in_force, number_in_force}
use Rattle.drf_row_laws.proofs.LiveLaws.{live_rows-twice}
use Rattle.drf_row_laws.proofs.MemberLaws.{IsConsistent-filters_kept}
use Rattle.drf_rows.specs.Step.{live_rows}
use Rattle.drf_rows.specs.declared.rows.FilterRow.{FilterRow}
use Rattle.drf_tables.proofs.tables.Names.{Rows, Inside}
use Rattle.drf_tables.specs.Inside.{rows_of, rows_in, AreDerived}
use Rattle.drf_tables.proofs.tables.Kept.{AreDerived-same}
use Rattle.drf_tables.proofs.agents.Changes.{rows_but}

module _ (t : Inside) (filters : List FilterRow) (left : filters ≡ in_force t.clock t.filters) where
  swept : rows_but t t.agents.entries t.frameworks.entries filters ≡ live_rows (rows_in t)
  unfolding rows_of
  swept = λ i. record (rows_in t) { filters = left i }

  pub live-swept : live_rows (rows_but t t.agents.entries t.frameworks.entries filters) ≡ live_rows (rows_in t)
  live-swept = ap live_rows swept ∙ live_rows-twice (rows_in t)

  pub kept-swept : AreDerived (rows_in t) t.agents.entries t.total t.clients
      → AreDerived (rows_but t t.agents.entries t.frameworks.entries filters) t.agents.entries t.total t.clients
  kept-swept kept =
      subst (λ (r : Rows). AreDerived r t.agents.entries t.total t.clients) (sym swept)
      (AreDerived-same (rows_in t) (live_rows (rows_in t)) t.agents.entries t.total t.clients kept
      (IsConsistent-filters_kept (rows_in t) (is_in_force (rows_in t).clock) kept.consistent) refl refl refl)

-- all filters that are left are in force
pub left-swept : (rows : Rows) (filters left : List FilterRow) → left ≡ in_force rows.clock filters → number_in_force rows.clock left ≡ length left
left-swept rows filters left is =
    sym (length-filter (is_in_force rows.clock) left)
    ∙ ap (λ (fs : List FilterRow). length (in_force rows.clock fs)) is
    ∙ ap (λ (r : Rows). length r.filters) (live_rows-twice (record rows { filters = filters }))
    ∙ ap (λ (fs : List FilterRow). length fs) (sym is)
