use Rattle.std.proofs.Common.{◌∷◌, [], ◌∙◌, not}
use Rattle.drf_saved.specs.Saved.{first_fault, row_fault}
use Rattle.drf_rows.specs.declared.reply.Refusal.TheVariants.{UnknownAgent, UnknownFramework, NotInRole, NotCovered}
use Rattle.drf_saved.specs.declared.fault.RowFault.TheVariants.{Refused, OutOfOrder, BadNumber}
use Rattle.drf_state.proofs.fitting.offer_fault.Goals as goal

pub returns : goal.returns
unfolding row_fault
returns c = λ limits.
    c.first_fault.ensures ∙ (λ i. first_fault (
    (not (c.has_no_tasks.ensures i), OutOfOrder)
    ∷ (not (c.has_agent.ensures i), Refused UnknownAgent)
    ∷ (not (c.has_framework.ensures i), Refused UnknownFramework)
    ∷ (not (c.is_in_role.ensures i), Refused NotInRole)
    ∷ (not (c.in_ok-is_usable.ensures i), Refused NotCovered)
    ∷ (c.is_bad_offer.ensures i, BadNumber)
    ∷ []))
