-- The rows after an offer or a task ends, or after an offer is accepted.
use Rattle.std.specs.Prelude.{◌≡◌, ℕ, ◌+◌, Bool, true, ◌⊎◌, List, [], ◌∷◌, ◌++◌, map, count_by, cond, Option, Some, None, if◌then◌else◌}
use Rattle.std.specs.Option.{option_map_or}
use Rattle.drf_role.specs.Text.{Text}
use Rattle.drf_rows.specs.Releases.{Release, one_offer, ends_offer, ends_task, without_ended}
use Rattle.drf_rows.specs.Held.{is_registered}
use Rattle.drf_rows.specs.Holdings.{Holding, holdings_of, held_where, amount_in}
use Rattle.drf_rows.specs.Offers.{left_of_offer, task_of}
use Rattle.drf_rows.specs.Tasks.{Start}
use Rattle.drf_rows.specs.declared.rows.FilterRow.{FilterRow}
use Rattle.drf_rows.specs.declared.rows.OfferRow.{OfferRow}
use Rattle.drf_rows.specs.declared.rows.Rows.{Rows}
use Rattle.drf_holdings.specs.Stored.{OffersAndTasks, IsOfferOut, IsTaskOut, holding_of}
use Rattle.drf_holdings.specs.declared.holdings.Taken.{Taken}

-- how many offers and tasks an `Release` selects
abbrev pub left_to_end : Rows → Release → ℕ
left_to_end rows release = count_by (ends_offer release) rows.offers + count_by (ends_task release) rows.tasks

-- the offers and tasks of the rows
abbrev pub held_in : Rows → OffersAndTasks
held_in rows = record { offers = rows.offers; tasks = rows.tasks }

-- one of the selected offers and tasks was removed
pub record HasEnded (old new : Rows) (release : Release) (ended : Taken) : Type 0 where
  pub registered : is_registered old.frameworks (holding_of ended).client ≡ true
  pub taken : IsOfferOut release (held_in old) (held_in new) (holding_of ended) ⊎ IsTaskOut release (held_in old) (held_in new) (holding_of ended)
  -- nothing else changed
  pub others : new ≡ record old { offers = new.offers; tasks = new.tasks }
  -- the other selected ones remain to be removed, and nothing else is removed
  pub later : without_ended new release ≡ without_ended old release
  pub fewer : left_to_end old release ≡ left_to_end new release + 1
  -- the holdings that pass a test hold this much less
  pub out : (test : Holding → Bool) (label : Text)
      → held_where test (holdings_of old) label
      ≡ held_where test (holdings_of new) label + cond (test (holding_of ended)) (amount_in label (holding_of ended)) 0

-- the rest of an offer that an accept releases
abbrev pub rest_taken : OfferRow → List Start → Taken
rest_taken o starts = record { agent = o.agent; role = o.role; framework = o.framework; bundle = left_of_offer o starts }

-- a filter, if one is to be set
abbrev pub filter_if : Bool → FilterRow → Option FilterRow
filter_if is_filtered filter = if is_filtered then Some filter else None

-- the rows after an offer is replaced by tasks, and a filter, if any, is added last
abbrev pub with_accepted : Rows → OfferRow → List Start → Option FilterRow → Rows
with_accepted rows o starts filter = record (without_ended rows (one_offer o.number)) {
  tasks = rows.tasks ++ map (task_of o) starts;
  filters = rows.filters ++ option_map_or (λ f. f ∷ []) filter [];
}
