-- Release of resources: all events that end offers or tasks do it by an `Release`, so that one theorem covers them all.
use Rattle.std.specs.Prelude.{ℕ, ◌==◌, Bool, false, not, ◌&&◌, filter}
use Rattle.drf_role.specs.Text.{Text, same_text}
use Rattle.drf_rows.specs.declared.rows.OfferRow.{OfferRow}
use Rattle.drf_rows.specs.declared.rows.TaskRow.{TaskRow}
use Rattle.drf_rows.specs.declared.rows.Rows.{Rows}

pub data Release : Type 0 where
  -- the offer with a number
  one_offer : ℕ → Release
  -- the task of a framework with a name
  one_task : Text → Text → Release
  -- all offers on an agent
  offers_on : Text → Release
  -- all offers and tasks on an agent
  all_on : Text → Release
  -- all offers and tasks of a framework
  all_of : Text → Release

-- the ending ends the offer
abbrev pub ends_offer : Release → OfferRow → Bool
ends_offer (one_offer number) o = o.number == number
ends_offer (one_task framework name) o = false
ends_offer (offers_on agent) o = same_text o.agent agent
ends_offer (all_on agent) o = same_text o.agent agent
ends_offer (all_of framework) o = same_text o.framework framework

-- the task is one of that framework and has that name
abbrev pub is_task : Text → Text → TaskRow → Bool
is_task framework name t = same_text t.framework framework && same_text t.name name

-- the ending ends the task
abbrev pub ends_task : Release → TaskRow → Bool
ends_task (one_offer number) t = false
ends_task (one_task framework name) t = is_task framework name t
ends_task (offers_on agent) t = false
ends_task (all_on agent) t = same_text t.agent agent
ends_task (all_of framework) t = same_text t.framework framework

-- the rows without the offers and tasks that end; the others keep their order
abbrev pub without_ended : Rows → Release → Rows
without_ended rows release = record rows {
  offers = filter (λ o. not (ends_offer release o)) rows.offers;
  tasks = filter (λ t. not (ends_task release t)) rows.tasks;
}
