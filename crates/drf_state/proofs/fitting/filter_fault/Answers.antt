use Rattle.std.proofs.Common.{◌∷◌, [], ◌∙◌, not, nat_le}
use Rattle.drf_saved.specs.Saved.{first_fault, row_fault}
use Rattle.drf_rows.specs.declared.reply.Refusal.TheVariants.{UnknownAgent, UnknownFramework, NotInRole, TooMany}
use Rattle.drf_saved.specs.declared.fault.RowFault.TheVariants.{Refused, BadNumber}
use Rattle.drf_state.proofs.fitting.filter_fault.Goals as goal

pub returns : goal.returns
unfolding row_fault
returns c =
    c.first_fault.ensures ∙ (λ i. first_fault (
    (not (c.has_agent.ensures i), Refused UnknownAgent)
    ∷ (not (c.has_framework.ensures i), Refused UnknownFramework)
    ∷ (not (c.is_in_role.ensures i), Refused NotInRole)
    ∷ (c.is_bad_end.ensures i, BadNumber)
    ∷ (nat_le (c.filters.ensures.value i) (c.filter_count.ensures i), Refused TooMany)
    ∷ []))
