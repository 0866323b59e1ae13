-- What a framework does with an offer: it accepts it and starts tasks with parts of it, or declines it. Both can set a
-- filter for the resources that it does not use.
use Rattle.std.specs.Prelude.{◌≡◌, ℕ, ◌+◌, ◌==◌, max, min, Bool, true, false, not, ◌&&◌, ◌||◌, ⊤, List, [], ◌∷◌, ◌++◌, map, find, Option, is_some, if◌then◌else◌, nat_le, nat_lt, Some}
use Rattle.std.specs.List.{list_any}
use Rattle.std.specs.Option.{option_map_or}
use Rattle.drf_role.specs.Text.{Text, same_text}
use Rattle.drf_bundle.specs.Taken.{rest_of_all}
use Rattle.drf_bundle.specs.declared.resource.Resource.{Resource}
use Rattle.drf_rows.specs.LimitNumbers.{LimitNumbers}
use Rattle.drf_rows.specs.Releases.{without_ended, one_offer, is_task}
use Rattle.drf_rows.specs.Consistent.{are_distinct}
use Rattle.drf_rows.specs.Filters.{number_in_force}
use Rattle.drf_rows.specs.Tasks.{Start, names_of, uses, covers_all}
use Rattle.drf_rows.specs.declared.limits.TheConstants.{LONGEST_FILTER}
use Rattle.drf_rows.specs.declared.rows.FilterRow.{FilterRow}
use Rattle.drf_rows.specs.declared.rows.OfferRow.{OfferRow}
use Rattle.drf_rows.specs.declared.rows.Rows.{Rows}
use Rattle.drf_rows.specs.declared.rows.TaskRow.{TaskRow}

-- ---- what the rows say of offers and tasks

-- the outstanding offer with a number
abbrev pub offer_at : Rows → ℕ → Option OfferRow
offer_at rows number = find (λ o. o.number == number) rows.offers

-- an offer with that number is outstanding
abbrev pub has_offer : Rows → ℕ → Bool
has_offer rows number = is_some (offer_at rows number)

-- the offer is outstanding and was made to another framework
abbrev pub belongs_to_another : Rows → Text → ℕ → Bool
belongs_to_another rows framework number = option_map_or (λ o. not (same_text o.framework framework)) (offer_at rows number) false

-- the offer is outstanding and does not cover all tasks together; this includes tasks whose parts have no join
abbrev pub exceeds_offer : Rows → ℕ → List Start → Bool
exceeds_offer rows number starts = option_map_or (λ o. not (covers_all o.bundle (uses starts))) (offer_at rows number) false

-- the framework has a task with that name
abbrev pub has_task : Rows → Text → Text → Bool
has_task rows framework name = list_any (is_task framework name) rows.tasks

-- the framework already has a task with one of the names, or a name occurs twice
abbrev pub is_task_known : Rows → Text → List Start → Bool
is_task_known rows framework starts =
    list_any (λ s. has_task rows framework s.0) starts || not (are_distinct (names_of starts))

-- ---- tasks that are started with parts of an offer

-- the row of a started task: it runs on the agent of the offer, and belongs to the client of the offer
abbrev pub task_of : OfferRow → Start → TaskRow
task_of o start = record { name = start.0; agent = o.agent; framework = o.framework; role = o.role; bundle = start.1 }

-- the tasks can be started with parts of the offer: it covers them all together, and their names are new
pub record CanStart (rows : Rows) (o : OfferRow) (starts : List Start) : Type 0 where
  pub covered : covers_all o.bundle (uses starts) ≡ true
  pub new : is_task_known rows o.framework starts ≡ false

-- the tasks can be started with parts of the offer with that number
pub record CanAccept (rows : Rows) (number : ℕ) (starts : List Start) : Type 0 where
  pub offer : OfferRow
  pub at : offer_at rows number ≡ Some offer
  pub can : CanStart rows offer starts

-- each task is new with respect to the old tasks and the tasks before it in the list
abbrev pub AreNew : List TaskRow → List TaskRow → Type 0
AreNew old [] = ⊤
AreNew old (t ∷ ts) = (list_any (is_task t.framework t.name) old ≡ false) × AreNew (old ++ t ∷ []) ts

-- the rest of the offer without the parts of the tasks
abbrev pub left_of_offer : OfferRow → List Start → List Resource
left_of_offer o starts = rest_of_all o.bundle (uses starts)

-- ---- filters that a framework sets

-- the end of a filter, in milliseconds; more than 365 days count as 365 days
abbrev pub filtered_until : ℕ → ℕ → ℕ
filtered_until clock refuse_ms = clock + min refuse_ms LONGEST_FILTER

-- the filter that an accept or a decline sets, for the client and on the agent of the offer
abbrev pub filter_of : OfferRow → List Resource → ℕ → FilterRow
filter_of o bundle until = record { framework = o.framework; role = o.role; agent = o.agent; bundle = bundle; until = until }

-- the list has no entries
abbrev pub is_empty : {A : Type 0} → List A → Bool
is_empty [] = true
is_empty (x ∷ xs) = false

-- a decline sets a filter if `refuse_ms` is not 0
abbrev pub filters_all : ℕ → Bool
filters_all refuse_ms = nat_lt 0 refuse_ms

-- an accept sets a filter if `refuse_ms` is not 0 and something is left of the offer
abbrev pub filters_rest : OfferRow → List Start → ℕ → Bool
filters_rest o starts refuse_ms = nat_lt 0 refuse_ms && not (is_empty (left_of_offer o starts))

-- the filters after an accept or a decline: if it sets a filter, the new filter is last
abbrev pub filters_with : Rows → Bool → OfferRow → List Resource → ℕ → List FilterRow
filters_with rows filtered o bundle refuse_ms =
    if filtered then rows.filters ++ filter_of o bundle (filtered_until rows.clock refuse_ms) ∷ [] else rows.filters

-- at that timestamp, as many filters as the capacity allows are in force
abbrev pub are_many_filters : LimitNumbers → Rows → ℕ → Bool
are_many_filters limits rows at = nat_le limits.filters (number_in_force (max rows.clock at) rows.filters)

-- ---- the effect of an accept or a decline

-- the offer ends, its tasks start, and the rest becomes free
abbrev pub offer_accepted : Rows → OfferRow → List Start → ℕ → Rows
offer_accepted rows o starts refuse_ms = record (without_ended rows (one_offer o.number)) {
  tasks = rows.tasks ++ map (task_of o) starts;
  filters = filters_with rows (filters_rest o starts refuse_ms) o (left_of_offer o starts) refuse_ms;
}

-- the offer ends, and all of it becomes free
abbrev pub offer_declined : Rows → OfferRow → ℕ → Rows
offer_declined rows o refuse_ms = record (without_ended rows (one_offer o.number)) {
  filters = filters_with rows (filters_all refuse_ms) o o.bundle refuse_ms;
}
