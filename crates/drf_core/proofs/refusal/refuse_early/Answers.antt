use Rattle.std.proofs.Common.{◌∷◌, [], ap, ◌∙◌, sym}
use Rattle.drf_rows.specs.Step.{first_case, refusal_of}
use Rattle.drf_rows.specs.declared.reply.Refusal.TheVariants.{HistoryFull}
use Rattle.drf_core.specs.refusal.Cases.{early_refusal_of}
use Rattle.drf_core.proofs.refusal.refuse_early.Goals as goal

pub returns-in-AddAgent : goal.returns-in-AddAgent
unfolding early_refusal_of refusal_of
returns-in-AddAgent c = c.refuse_agent.ensures ∙ ap (early_refusal_of c.args.limits.now c.args.tables.now.rows) (sym c.in-AddAgent.is)

pub returns-in-RemoveAgent : goal.returns-in-RemoveAgent
unfolding early_refusal_of refusal_of
returns-in-RemoveAgent c = c.refuse_unknown_agent.ensures ∙ ap (early_refusal_of c.args.limits.now c.args.tables.now.rows) (sym c.in-RemoveAgent.is)

pub returns-in-ActivateAgent : goal.returns-in-ActivateAgent
unfolding early_refusal_of refusal_of
returns-in-ActivateAgent c = c.refuse_unknown_agent-in-ActivateAgent.ensures ∙ ap (early_refusal_of c.args.limits.now c.args.tables.now.rows) (sym c.in-ActivateAgent.is)

pub returns-in-DeactivateAgent : goal.returns-in-DeactivateAgent
unfolding early_refusal_of refusal_of
returns-in-DeactivateAgent c = c.refuse_unknown_agent-in-DeactivateAgent.ensures ∙ ap (early_refusal_of c.args.limits.now c.args.tables.now.rows) (sym c.in-DeactivateAgent.is)

pub returns-in-SetAgent : goal.returns-in-SetAgent
unfolding early_refusal_of refusal_of
returns-in-SetAgent c = c.refuse_unknown_agent-in-SetAgent.ensures ∙ ap (early_refusal_of c.args.limits.now c.args.tables.now.rows) (sym c.in-SetAgent.is)

pub returns-in-SetFramework : goal.returns-in-SetFramework
unfolding early_refusal_of refusal_of
returns-in-SetFramework c = c.refuse_roles.ensures ∙ ap (early_refusal_of c.args.limits.now c.args.tables.now.rows) (sym c.in-SetFramework.is)

pub returns-in-AddFramework : goal.returns-in-AddFramework
unfolding early_refusal_of refusal_of
returns-in-AddFramework c = c.refuse_framework.ensures ∙ ap (early_refusal_of c.args.limits.now c.args.tables.now.rows) (sym c.in-AddFramework.is)

pub returns-in-RemoveFramework : goal.returns-in-RemoveFramework
unfolding early_refusal_of refusal_of
returns-in-RemoveFramework c = c.refuse_unknown_framework.ensures ∙ ap (early_refusal_of c.args.limits.now c.args.tables.now.rows) (sym c.in-RemoveFramework.is)

pub returns-in-Accept : goal.returns-in-Accept
unfolding early_refusal_of refusal_of
returns-in-Accept c = c.refuse_accept.ensures ∙ ap (early_refusal_of c.args.limits.now c.args.tables.now.rows) (sym c.in-Accept.is)

pub returns-in-Decline : goal.returns-in-Decline
unfolding early_refusal_of refusal_of
returns-in-Decline c = c.refuse_decline.ensures ∙ ap (early_refusal_of c.args.limits.now c.args.tables.now.rows) (sym c.in-Decline.is)

pub returns-in-Rescind : goal.returns-in-Rescind
unfolding early_refusal_of refusal_of
returns-in-Rescind c = c.refuse_rescind.ensures ∙ ap (early_refusal_of c.args.limits.now c.args.tables.now.rows) (sym c.in-Rescind.is)

pub returns-in-Finish : goal.returns-in-Finish
unfolding early_refusal_of refusal_of
returns-in-Finish c = c.refuse_finish.ensures ∙ ap (early_refusal_of c.args.limits.now c.args.tables.now.rows) (sym c.in-Finish.is)

pub returns-in-Suppress : goal.returns-in-Suppress
unfolding early_refusal_of refusal_of
returns-in-Suppress c = c.refuse_unknown_client.ensures ∙ ap (early_refusal_of c.args.limits.now c.args.tables.now.rows) (sym c.in-Suppress.is)

pub returns-in-Revive : goal.returns-in-Revive
unfolding early_refusal_of refusal_of
returns-in-Revive c = c.refuse_unknown_client-in-Revive.ensures ∙ ap (early_refusal_of c.args.limits.now c.args.tables.now.rows) (sym c.in-Revive.is)

pub returns-in-Reserve : goal.returns-in-Reserve
unfolding early_refusal_of refusal_of
returns-in-Reserve c = c.refuse_move.ensures ∙ ap (early_refusal_of c.args.limits.now c.args.tables.now.rows) (sym c.in-Reserve.is)

pub returns-in-Unreserve : goal.returns-in-Unreserve
unfolding early_refusal_of refusal_of
returns-in-Unreserve c = c.refuse_move-in-Unreserve.ensures ∙ ap (early_refusal_of c.args.limits.now c.args.tables.now.rows) (sym c.in-Unreserve.is)

pub returns-in-SetWeight : goal.returns-in-SetWeight
unfolding early_refusal_of refusal_of
returns-in-SetWeight c = c.refuse_weight.ensures ∙ ap (early_refusal_of c.args.limits.now c.args.tables.now.rows) (sym c.in-SetWeight.is)

pub returns-in-SetLimit : goal.returns-in-SetLimit
unfolding early_refusal_of refusal_of
returns-in-SetLimit c = c.refuse_limit.ensures ∙ ap (early_refusal_of c.args.limits.now c.args.tables.now.rows) (sym c.in-SetLimit.is)

pub returns-in-Cycle : goal.returns-in-Cycle
unfolding early_refusal_of refusal_of
returns-in-Cycle c = c.refuse_cycle.ensures ∙ ap (early_refusal_of c.args.limits.now c.args.tables.now.rows) (sym c.in-Cycle.is)

pub returns-in-Report : goal.returns-in-Report
unfolding early_refusal_of
returns-in-Report c =
    c.first_case.ensures
    ∙ (λ i. first_case ((c.is_full.ensures i, HistoryFull) ∷ []))
    ∙ ap (early_refusal_of c.args.limits.now c.args.tables.now.rows) (sym c.in-Report.is)
