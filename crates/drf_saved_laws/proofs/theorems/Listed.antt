-- A list that is restored is the list that is saved of the restored rows.
use Rattle.std.specs.Prelude.{◌≡◌, ◌^◌, Bool, true, ◌&&◌, List, [], ◌∷◌, ◌++◌, map, Some, nat_le}
use Rattle.std.proofs.Common.{refl, sym, ap, subst, ◌∙◌, cond, append_assoc}
use Rattle.std.proofs.lemmas.Bool.{leb-false, lt-ltb, not-false, or_parts}
use Rattle.std.proofs.lemmas.List.{map-append, append-nil}
use Rattle.std.proofs.lemmas.List.Elements.{filter-append}
use Rattle.drf_rows.specs.Filters.{in_force, is_in_force}
use Rattle.drf_rows.specs.LimitNumbers.{LimitNumbers}
use Rattle.drf_rows.specs.Offers.{is_empty}
use Rattle.drf_rows.specs.declared.rows.FilterRow.{FilterRow}
use Rattle.drf_rows.specs.declared.rows.Rows.{Rows}
use Rattle.drf_saved.specs.Saved.{begun, head_of, no_filters, no_frameworks, no_limits, no_offers, no_tasks, no_weights, restored_from, row_cases, saved_rows, with_row}
use Rattle.drf_saved.specs.declared.saved.SavedRow.{SavedRow}
use Rattle.drf_saved.specs.declared.saved.SavedRow.TheVariants.{Agent, Framework, Weight, Limit, Offer, Task, Filter}
use Rattle.drf_saved_laws.specs.SavedLaws.{RestoredIsListed}
use Rattle.drf_saved_laws.proofs.theorems.Faults.{NoneHolds, no_row_case, taken_first, taken_head}

-- ---- tables after which there is nothing

-- the table is empty, and so are those after it
table_gone : {X : Type 0} (variant : X → SavedRow) (xs : List X) (none : Bool) (behind : List SavedRow)
    → (is_empty xs && none) ≡ true → (none ≡ true → behind ≡ []) → map variant xs ++ behind ≡ []
table_gone variant [] none behind empty gone = gone empty
table_gone variant (x ∷ xs) none behind empty gone = cc

module _ (rows : Rows) where
  abbrev from_filters : List SavedRow
  from_filters = map Filter (in_force rows.clock rows.filters)

  abbrev from_tasks : List SavedRow
  from_tasks = map Task rows.tasks ++ from_filters

  abbrev from_offers : List SavedRow
  from_offers = map Offer rows.offers ++ from_tasks

  abbrev from_limits : List SavedRow
  from_limits = map Limit rows.limits ++ from_offers

  abbrev from_weights : List SavedRow
  from_weights = map Weight rows.weights ++ from_limits

  abbrev from_frameworks : List SavedRow
  from_frameworks = map Framework rows.frameworks ++ from_weights

  filters_gone : no_filters rows ≡ true → from_filters ≡ []
  filters_gone empty = by rows.filters empty
    where
      by : (fs : List FilterRow) → is_empty fs ≡ true → map Filter (in_force rows.clock fs) ≡ []
      by [] empty = refl
      by (f ∷ fs) empty = cc

  tasks_gone : no_tasks rows ≡ true → from_tasks ≡ []
  tasks_gone empty = table_gone Task rows.tasks (no_filters rows) from_filters empty filters_gone

  offers_gone : no_offers rows ≡ true → from_offers ≡ []
  offers_gone empty = table_gone Offer rows.offers (no_tasks rows) from_tasks empty tasks_gone

  limits_gone : no_limits rows ≡ true → from_limits ≡ []
  limits_gone empty = table_gone Limit rows.limits (no_offers rows) from_offers empty offers_gone

  weights_gone : no_weights rows ≡ true → from_weights ≡ []
  weights_gone empty = table_gone Weight rows.weights (no_limits rows) from_limits empty limits_gone

  frameworks_gone : no_frameworks rows ≡ true → from_frameworks ≡ []
  frameworks_gone empty = table_gone Framework rows.frameworks (no_weights rows) from_weights empty weights_gone

-- ---- a row without an error is the last of the list

module _ (limits : LimitNumbers) (rows : Rows) where
  -- a filter is in force
  filter_last : (f : FilterRow) → NoneHolds (row_cases limits rows (Filter f))
      → in_force rows.clock (rows.filters ++ f ∷ []) ≡ in_force rows.clock rows.filters ++ f ∷ []
  filter_last f none =
      let late = lt-ltb rows.clock f.until (leb-false f.until rows.clock (or_parts (nat_le f.until rows.clock) (nat_le (2 ^ 63) f.until) none.1.1.1.0).0) in
      filter-append (is_in_force rows.clock) rows.filters (f ∷ [])
      ∙ ap (λ b. in_force rows.clock rows.filters ++ cond b (f ∷ []) []) late

  row_last : (row : SavedRow) → NoneHolds (row_cases limits rows row) → saved_rows (with_row rows row) ≡ saved_rows rows ++ row ∷ []
  row_last (Agent a) none = rw (frameworks_gone rows (not-false (no_frameworks rows) none.0)) (simp (map-append, append-nil))
  row_last (Framework f) none = rw (weights_gone rows (not-false (no_weights rows) none.0)) (simp (map-append, append-nil, append_assoc))
  row_last (Weight w) none = rw (limits_gone rows (not-false (no_limits rows) none.0)) (simp (map-append, append-nil, append_assoc))
  row_last (Limit l) none = rw (offers_gone rows (not-false (no_offers rows) none.0)) (simp (map-append, append-nil, append_assoc))
  row_last (Offer o) none = rw (tasks_gone rows (not-false (no_tasks rows) none.0)) (simp (map-append, append-nil, append_assoc))
  row_last (Task t) none = rw (filters_gone rows (not-false (no_filters rows) none.0)) (simp (map-append, append-nil, append_assoc))
  row_last (Filter f) none = rw (filter_last f none) (simp (map-append, append_assoc))

  -- the numbers are unchanged, and all filters are in force
  others_stay : (row : SavedRow) → NoneHolds (row_cases limits rows row) → in_force rows.clock rows.filters ≡ rows.filters
      → (head_of (with_row rows row) ≡ head_of rows) × (in_force rows.clock (with_row rows row).filters ≡ (with_row rows row).filters)
  others_stay (Filter f) none live = (refl, filter_last f none ∙ ap (λ (fs : List FilterRow). fs ++ f ∷ []) live)
  others_stay other none live = (refl, live)

-- ---- all rows of a list

listed_from : (limits : LimitNumbers) (rows : Rows) (saved : List SavedRow) (made : Rows) → restored_from limits rows saved ≡ Some made
    → in_force rows.clock rows.filters ≡ rows.filters
    → (saved_rows made ≡ saved_rows rows ++ saved) × (head_of made ≡ head_of rows) × (in_force made.clock made.filters ≡ made.filters)
listed_from limits rows [] made is live =
    let same : rows ≡ made = cc in (
      ap saved_rows (sym same) ∙ sym (append-nil (saved_rows rows)),
      ap head_of (sym same),
      subst (λ (r : Rows). in_force r.clock r.filters ≡ r.filters) same live,
    )
listed_from limits rows (row ∷ more) made is live =
    let taken = taken_first limits rows row more made is in
    let none = no_row_case limits rows row taken.0 in
    let stays = others_stay limits rows row none live in
    let later = listed_from limits (with_row rows row) more made taken.1 (ap (λ h. in_force h.clock (with_row rows row).filters) stays.0 ∙ stays.1) in (
      later.0 ∙ ap (λ (listed : List SavedRow). listed ++ more) (row_last limits rows row none) ∙ append_assoc (saved_rows rows) (row ∷ []) more,
      later.1 ∙ stays.0,
      later.2,
    )

pub restored_is_listed : RestoredIsListed
restored_is_listed limits head saved rows is =
    let listed = listed_from limits (begun head) saved rows (taken_head limits head saved rows is).1 refl in
    (listed.0, listed.1, ap (λ (fs : List FilterRow). record rows { filters = fs }) listed.2)
