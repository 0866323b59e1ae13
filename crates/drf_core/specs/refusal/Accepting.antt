-- The refusals of `accept`.
use Rattle.std.specs.Prelude.{Bool, not, List, [], ◌∷◌, nat_lt}
use Rattle.std.specs.List.{list_any}
use Rattle.drf_rows.specs.LimitNumbers.{LimitNumbers}
use Rattle.drf_rows.specs.Members.{has_framework}
use Rattle.drf_rows.specs.Offers.{has_offer, belongs_to_another, exceeds_offer, is_task_known, is_empty}
use Rattle.drf_rows.specs.Step.{is_full}
use Rattle.drf_rows.specs.Tasks.{uses}
use Rattle.drf_rows.specs.declared.event.Accept as accepting
use Rattle.drf_rows.specs.declared.limits.TheConstants.{LATEST_TIMESTAMP}
use Rattle.drf_rows.specs.declared.reply.Refusal.{Refusal}
use Rattle.drf_rows.specs.declared.reply.Refusal.TheVariants.{HistoryFull, BadMoment, UnknownFramework, UnknownOffer, NotYours, KnownTask, Empty, NotCovered}
use Rattle.drf_rows.specs.declared.rows.Rows.{Rows}

-- the cases in which an accept is refused, except for the number of filters
abbrev pub cases_of_tasks : LimitNumbers → Rows → accepting.Accept → List (Bool × Refusal)
cases_of_tasks limits rows a =
    (is_full limits rows, HistoryFull)
    ∷ (nat_lt LATEST_TIMESTAMP a.at, BadMoment)
    ∷ (not (has_framework rows a.framework), UnknownFramework)
    ∷ (not (has_offer rows a.offer), UnknownOffer)
    ∷ (belongs_to_another rows a.framework a.offer, NotYours)
    ∷ (is_task_known rows a.framework a.tasks, KnownTask)
    ∷ (list_any is_empty (uses a.tasks), Empty)
    ∷ (exceeds_offer rows a.offer a.tasks, NotCovered)
    ∷ []
