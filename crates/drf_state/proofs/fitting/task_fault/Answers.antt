use Rattle.std.proofs.Common.{◌∷◌, [], ◌∙◌, not}
use Rattle.drf_saved.specs.Saved.{first_fault, row_fault}
use Rattle.drf_rows.specs.declared.reply.Refusal.TheVariants.{UnknownAgent, UnknownFramework, NotInRole, KnownTask, NotCovered}
use Rattle.drf_saved.specs.declared.fault.RowFault.TheVariants.{Refused, OutOfOrder}
use Rattle.drf_state.proofs.fitting.task_fault.Goals as goal

pub returns : goal.returns
unfolding row_fault
returns c = λ limits.
    c.first_fault.ensures ∙ (λ i. first_fault (
    (not (c.has_no_filters.ensures i), OutOfOrder)
    ∷ (not (c.has_agent.ensures i), Refused UnknownAgent)
    ∷ (not (c.has_framework.ensures i), Refused UnknownFramework)
    ∷ (not (c.is_in_role.ensures i), Refused NotInRole)
    ∷ (c.has_task.ensures i, Refused KnownTask)
    ∷ (not (c.in_ok-is_usable.ensures i), Refused NotCovered)
    ∷ []))
