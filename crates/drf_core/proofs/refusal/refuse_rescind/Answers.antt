use Rattle.std.proofs.Common.{◌∷◌, [], ap, ◌∙◌, not}
use Rattle.std.specs.Prelude.{is_some}
use Rattle.drf_rows.specs.Step.{first_case, refusal_of}
use Rattle.drf_rows.specs.declared.reply.Refusal.TheVariants.{HistoryFull, UnknownOffer}
use Rattle.drf_core.proofs.refusal.refuse_rescind.Goals as goal

pub returns : goal.returns
unfolding refusal_of
returns c = c.first_case.ensures ∙ (λ i. first_case ((c.is_full.ensures i, HistoryFull) ∷ (not ((c.stands.ensures ∙ ap is_some c.offer.ensures) i), UnknownOffer) ∷ []))
