use Rattle.std.proofs.Common.{◌∷◌, [], ◌∙◌}
use Rattle.drf_rows.specs.Step.{first_case, refusal_of}
use Rattle.drf_core.proofs.refusing.Tests.{empty_from}
use Rattle.drf_rows.specs.declared.reply.Refusal.TheVariants.{Empty, HistoryFull, KnownFramework, TooMany}
use Rattle.drf_core.proofs.refusal.refuse_framework.Goals as goal

pub returns : goal.returns
unfolding refusal_of
returns c =
    let empty = empty_from c.args.roles.now c.is_empty.result c.is_empty.ensures in
    c.first_case.ensures ∙ (λ i. first_case ((c.is_full.ensures i, HistoryFull) ∷ (c.has_framework.ensures i, KnownFramework) ∷ (empty i, Empty) ∷ (c.too_many_frameworks.ensures i, TooMany) ∷ []))
