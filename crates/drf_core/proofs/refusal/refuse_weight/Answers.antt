use Rattle.std.proofs.Common.{◌∷◌, [], ◌∙◌}
use Rattle.drf_rows.specs.Step.{first_case, refusal_of}
use Rattle.drf_rows.specs.declared.reply.Refusal.TheVariants.{BadWeight, HistoryFull, TooMany}
use Rattle.drf_core.proofs.refusal.refuse_weight.Goals as goal

pub returns : goal.returns
unfolding refusal_of
returns c = c.first_case.ensures ∙ (λ i. first_case ((c.is_full.ensures i, HistoryFull) ∷ (c.is_bad_weight.ensures i, BadWeight) ∷ (c.too_many_weights.ensures i, TooMany) ∷ []))
