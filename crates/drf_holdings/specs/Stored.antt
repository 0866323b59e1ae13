-- The value of `Holdings` as contracts see it, and what it means that a holding was removed or replaced by tasks.
use Rattle.std.specs.Prelude.{◌≡◌, ℕ, ◌==◌, ◌⊎◌, List, ◌++◌, map, find, Option, Some, None, refl}
use Rattle.std.specs.Coded.{Coded, code_by, coded×, coded_list}
use Rattle.drf_rows.specs.Releases.{Release, ends_offer, ends_task}
use Rattle.drf_rows.specs.Holdings.{Holding, holding_of_offer, holding_of_task}
use Rattle.drf_rows.specs.Offers.{task_of}
use Rattle.drf_rows.specs.Tasks.{Start}
use Rattle.drf_rows.specs.contracts.rows.OfferRow as offer_row
use Rattle.drf_rows.specs.contracts.rows.TaskRow as task_row
use Rattle.drf_rows.specs.declared.rows.OfferRow.{OfferRow}
use Rattle.drf_rows.specs.declared.rows.TaskRow.{TaskRow}
use Rattle.drf_holdings.specs.Taking.{IsTaken, HasNone}
use Rattle.drf_holdings.specs.declared.holdings.Taken.{Taken}

-- the offers in order of number, and the tasks in the order in which they were started
pub record OffersAndTasks : Type 0 where
  pub offers : List OfferRow
  pub tasks : List TaskRow

-- the code by which the prover decides equality of these values
abbrev pub offers_and_tasks_code : Coded OffersAndTasks
offers_and_tasks_code = code_by (List OfferRow × List TaskRow) (coded× (coded_list offer_row.the_row.coded) (coded_list task_row.the_row.coded))
    (λ h. (h.offers, h.tasks)) (λ p. record { offers = p.0; tasks = p.1 }) (λ _. refl)

-- all holdings
abbrev pub holdings_in : OffersAndTasks → List Holding
holdings_in h = map holding_of_offer h.offers ++ map holding_of_task h.tasks

-- a removed offer or task as a holding
abbrev pub holding_of : Taken → Holding
holding_of t = record { agent = t.agent; client = record { role = t.role; framework = t.framework }; bundle = t.bundle }

-- the holding is an offer that the ending selects, and was removed
pub record IsOfferOut (release : Release) (old new : OffersAndTasks) (h : Holding) : Type 0 where
  pub offer : OfferRow
  pub taken : IsTaken (ends_offer release) old.offers new.offers offer
  pub same : new.tasks ≡ old.tasks
  pub reported : h ≡ holding_of_offer offer

-- the holding is a task that the ending selects, and was removed
pub record IsTaskOut (release : Release) (old new : OffersAndTasks) (h : Holding) : Type 0 where
  pub task : TaskRow
  pub taken : IsTaken (ends_task release) old.tasks new.tasks task
  pub same : new.offers ≡ old.offers
  pub reported : h ≡ holding_of_task task

-- the ending selects no offer and no task
pub record IsNothingOut (release : Release) (old new : OffersAndTasks) : Type 0 where
  pub offers : HasNone (ends_offer release) old.offers new.offers
  pub tasks : HasNone (ends_task release) old.tasks new.tasks

-- one holding that the ending selects was removed, or there is none
abbrev pub HasTaken : Release → OffersAndTasks → OffersAndTasks → Option Taken → Type 0
HasTaken release old new None = IsNothingOut release old new
HasTaken release old new (Some taken) = IsOfferOut release old new (holding_of taken) ⊎ IsTaskOut release old new (holding_of taken)

-- the offer with this number was removed, and tasks with parts of it were appended
pub record HasStarted (number : ℕ) (starts : List Start) (old new : OffersAndTasks) (offer : OfferRow) : Type 0 where
  pub found : find (λ o. o.number == number) old.offers ≡ Some offer
  pub taken : IsTaken (λ o. o.number == number) old.offers new.offers offer
  pub started : new.tasks ≡ old.tasks ++ map (task_of offer) starts
