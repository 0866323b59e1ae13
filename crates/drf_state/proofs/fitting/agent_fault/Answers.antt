use Rattle.std.proofs.Common.{◌∷◌, [], ◌∙◌, not, refl}
use Rattle.drf_saved.specs.Saved.{first_fault, row_fault}
use Rattle.drf_rows.specs.declared.reply.Refusal.TheVariants.{KnownAgent, TooLarge, TooMany}
use Rattle.drf_saved.specs.declared.fault.RowFault.TheVariants.{Refused, OutOfOrder}
use Rattle.drf_state.proofs.fitting.agent_fault.Goals as goal

pub returns : goal.returns
unfolding row_fault
returns c =
    c.first_fault.ensures ∙ (λ i. first_fault (
    (not (c.has_no_frameworks.ensures i), OutOfOrder)
    ∷ (c.has_agent.ensures i, Refused KnownAgent)
    ∷ (c.is_too_large.ensures i, Refused TooLarge)
    ∷ (c.too_many_agents.ensures c.args.row.now refl i, Refused TooMany)
    ∷ []))
