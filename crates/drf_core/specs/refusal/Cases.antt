-- The cases of refusals: early ones, which are tested without memory, and late ones, which can need memory.
use Rattle.std.specs.Prelude.{Bool, not, List, [], ◌∷◌, ◌++◌, Option}
use Rattle.drf_role.specs.Text.{Text}
use Rattle.drf_role.specs.Path.{Path}
use Rattle.drf_bundle.specs.Bundle.{quantities_of, is_default, is_unreserved, relabel}
use Rattle.drf_bundle.specs.declared.resource.Resource.{Resource}
use Rattle.drf_rows.specs.LimitNumbers.{LimitNumbers}
use Rattle.drf_rows.specs.Members.{has_agent}
use Rattle.drf_rows.specs.Offers.{is_empty}
use Rattle.drf_rows.specs.Quota.{admits}
use Rattle.drf_rows.specs.Step.{cases_of, first_case, is_full, is_too_large, too_many_names}
use Rattle.drf_rows.specs.Totals.{is_not_free, is_below_held, with_other_total}
use Rattle.drf_rows.specs.declared.event.Event.{Event}
use Rattle.drf_rows.specs.declared.event.Event.TheVariants.{SetAgent, Reserve, Unreserve}
use Rattle.drf_rows.specs.declared.reply.Refusal.{Refusal}
use Rattle.drf_rows.specs.declared.reply.Refusal.TheVariants.{HistoryFull, UnknownAgent, DefaultRole, Empty, NotUnreserved, NotCovered, OverLimit, TooLarge, TooMany}
use Rattle.drf_rows.specs.declared.rows.Rows.{Rows}

-- the early cases of `reserve` and `unreserve`
abbrev pub cases_of_move : LimitNumbers → Rows → Text → Path → List Resource → List (Bool × Refusal)
cases_of_move limits rows agent role resources =
    (is_full limits rows, HistoryFull)
    ∷ (not (has_agent rows agent), UnknownAgent)
    ∷ (is_default role, DefaultRole)
    ∷ (is_empty resources, Empty)
    ∷ (not (is_unreserved resources), NotUnreserved)
    ∷ []

-- the late cases of `reserve`: the resources are not free, or a limit does not admit them
abbrev pub cases_of_reserved : Rows → Text → Path → List Resource → List (Bool × Refusal)
cases_of_reserved rows agent role resources =
    (is_not_free rows agent resources, NotCovered) ∷ (not (admits rows role (quantities_of resources)), OverLimit) ∷ []

-- the late case of `unreserve`: the reserved resources are not free
abbrev pub cases_of_unreserved : Rows → Text → Path → List Resource → List (Bool × Refusal)
cases_of_unreserved rows agent role resources = (is_not_free rows agent (relabel role resources), NotCovered) ∷ []

-- the cases of an event that needs only a registered agent
abbrev pub cases_of_agent : LimitNumbers → Rows → Text → List (Bool × Refusal)
cases_of_agent limits rows agent = (is_full limits rows, HistoryFull) ∷ (not (has_agent rows agent), UnknownAgent) ∷ []

-- the cases of another total: it does not cover the held resources, or it is too large
abbrev pub cases_of_total : Rows → Text → List Resource → List (Bool × Refusal)
cases_of_total rows agent total = (is_below_held rows agent total, NotCovered) ∷ (is_too_large total, TooLarge) ∷ []

-- the case of another total that the scalars of all agents have too many names
abbrev pub cases_of_names : LimitNumbers → Rows → Text → List Resource → List (Bool × Refusal)
cases_of_names limits rows agent total = (too_many_names limits (with_other_total rows agent total), TooMany) ∷ []

-- the early cases of an event, which are tested without memory
abbrev pub early_cases_of : LimitNumbers → Rows → Event → List (Bool × Refusal)
early_cases_of limits rows (SetAgent agent total) = cases_of_agent limits rows agent
early_cases_of limits rows (Reserve agent role resources) = cases_of_move limits rows agent role resources
early_cases_of limits rows (Unreserve agent role resources) = cases_of_move limits rows agent role resources
early_cases_of limits rows event = cases_of limits rows event

-- the late cases of an event, which can need memory
abbrev pub late_cases_of : LimitNumbers → Rows → Event → List (Bool × Refusal)
late_cases_of limits rows (SetAgent agent total) = cases_of_total rows agent total ++ cases_of_names limits rows agent total
late_cases_of limits rows (Reserve agent role resources) = cases_of_reserved rows agent role resources
late_cases_of limits rows (Unreserve agent role resources) = cases_of_unreserved rows agent role resources
late_cases_of limits rows event = []

-- the early refusal of an event, if there is one
unfoldable pub early_refusal_of : LimitNumbers → Rows → Event → Option Refusal
early_refusal_of limits rows event = first_case (early_cases_of limits rows event)
