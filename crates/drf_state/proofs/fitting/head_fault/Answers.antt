use Rattle.std.proofs.Common.{◌∷◌, [], ◌∙◌, nat_lt}
use Rattle.drf_rows.specs.declared.limits.TheConstants.{LATEST_TIMESTAMP}
use Rattle.drf_rows.specs.declared.reply.Refusal.TheVariants.{HistoryFull, BadMoment}
use Rattle.drf_saved.specs.Saved.{first_fault, head_fault}
use Rattle.drf_saved.specs.declared.fault.RowFault.TheVariants.{Refused, BadNumber}
use Rattle.drf_state.proofs.fitting.head_fault.Goals as goal

pub returns : goal.returns
unfolding head_fault
returns c =
    c.first_fault.ensures ∙ (λ i. first_fault (
    (nat_lt (c.events.ensures.value i) c.args.head.events, Refused HistoryFull)
    ∷ (nat_lt LATEST_TIMESTAMP c.args.head.clock, Refused BadMoment)
    ∷ (c.is_bad_number.ensures i, BadNumber)
    ∷ []))
