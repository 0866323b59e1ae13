use Rattle.std.proofs.Common.{◌∷◌, [], ◌∙◌, not}
use Rattle.drf_saved.specs.Saved.{first_fault, row_fault}
use Rattle.drf_rows.specs.declared.reply.Refusal.TheVariants.{BadWeight, TooMany}
use Rattle.drf_saved.specs.declared.fault.RowFault.TheVariants.{Refused, OutOfOrder, KnownRole}
use Rattle.drf_state.proofs.fitting.weight_fault.Goals as goal

pub returns : goal.returns
unfolding row_fault
returns c =
    c.first_fault.ensures ∙ (λ i. first_fault (
    (not (c.has_no_limits.ensures i), OutOfOrder)
    ∷ (c.has_weight.ensures i, KnownRole)
    ∷ (c.is_bad_weight.ensures i, Refused BadWeight)
    ∷ (c.are_weights_too_many.ensures i, Refused TooMany)
    ∷ []))
