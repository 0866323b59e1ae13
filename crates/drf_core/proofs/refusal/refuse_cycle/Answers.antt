use Rattle.std.proofs.Common.{◌∷◌, [], ◌∙◌, nat_lt}
use Rattle.drf_rows.specs.Step.{first_case, refusal_of}
use Rattle.drf_rows.specs.declared.limits.TheConstants.{LATEST_TIMESTAMP}
use Rattle.drf_rows.specs.declared.reply.Refusal.TheVariants.{BadMoment, HistoryFull}
use Rattle.drf_core.proofs.refusal.refuse_cycle.Goals as goal

pub returns : goal.returns
unfolding refusal_of
returns c = c.first_case.ensures ∙ (λ i. first_case ((c.is_full.ensures i, HistoryFull) ∷ (nat_lt LATEST_TIMESTAMP c.args.at, BadMoment) ∷ []))
