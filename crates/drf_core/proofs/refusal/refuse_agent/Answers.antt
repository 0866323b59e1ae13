use Rattle.std.proofs.Common.{true, ◌∷◌, [], ◌∙◌, refl}
use Rattle.drf_rows.specs.Step.{first_case, refusal_of}
use Rattle.drf_rows.specs.declared.reply.Refusal.TheVariants.{HistoryFull, KnownAgent, TooLarge, TooMany}
use Rattle.drf_core.proofs.refusal.refuse_agent.Goals as goal

pub returns : goal.returns
unfolding refusal_of
returns c =
    let many = c.too_many_agents.ensures (record { name = c.args.agent.now; total = c.args.total.now; active = true }) refl in
    c.first_case.ensures ∙ (λ i. first_case ((c.is_full.ensures i, HistoryFull) ∷ (c.has_agent.ensures i, KnownAgent) ∷ (c.is_too_large.ensures i, TooLarge) ∷ (many i, TooMany) ∷ []))
