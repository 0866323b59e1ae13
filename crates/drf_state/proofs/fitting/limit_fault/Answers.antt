use Rattle.std.proofs.Common.{◌∷◌, [], ◌∙◌, not}
use Rattle.drf_saved.specs.Saved.{first_fault, row_fault}
use Rattle.drf_rows.specs.declared.reply.Refusal.TheVariants.{DefaultRole, Empty, TooMany}
use Rattle.drf_saved.specs.declared.fault.RowFault.TheVariants.{Refused, OutOfOrder, KnownRole}
use Rattle.drf_state.proofs.Fits.{default_from}
use Rattle.drf_state.proofs.fitting.limit_fault.Goals as goal

pub returns : goal.returns
unfolding row_fault
returns c =
    c.first_fault.ensures ∙ (λ i. first_fault (
    (not (c.has_no_offers.ensures i), OutOfOrder)
    ∷ (default_from c.args.row.now.role c.is_default.result c.is_default.ensures i, Refused DefaultRole)
    ∷ (c.names_nothing.ensures i, Refused Empty)
    ∷ (c.has_limit.ensures i, KnownRole)
    ∷ (c.is_limit_too_many.ensures i, Refused TooMany)
    ∷ []))
