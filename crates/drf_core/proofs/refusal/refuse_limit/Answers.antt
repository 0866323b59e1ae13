use Rattle.std.proofs.Common.{◌∷◌, [], ◌∙◌}
use Rattle.drf_rows.specs.Step.{first_case, refusal_of}
use Rattle.drf_rows.specs.declared.reply.Refusal.TheVariants.{HistoryFull, DefaultRole, TooMany}
use Rattle.drf_core.proofs.refusing.Tests.{default_from}
use Rattle.drf_core.proofs.refusal.refuse_limit.Goals as goal

pub returns : goal.returns
unfolding refusal_of
returns c =
    let default = default_from c.args.role.now c.is_default.result c.is_default.ensures in
    c.first_case.ensures ∙ (λ i. first_case ((c.is_full.ensures i, HistoryFull) ∷ (default i, DefaultRole) ∷ (c.too_many_limits.ensures i, TooMany) ∷ []))
