use Rattle.std.proofs.Common.{sym, ap, ◌∙◌, arith}
use Rattle.std.proofs.lemmas.Bool.{not-false}
use Rattle.drf_bundle.specs.Bundle.{is_unreserved}
use Rattle.drf_rows.specs.Members.{has_agent}
use Rattle.drf_core.specs.refusal.Cases.{cases_of_agent, cases_of_move, early_refusal_of}
use Rattle.drf_laws.proofs.theorems.Welcome.{no_case}
use Rattle.drf_core.proofs.refusal.late.refuse_late.Goals as goal

pub refuse_other_total-requires-clause-known : goal.refuse_other_total-requires-clause-known
unfolding early_refusal_of
refuse_other_total-requires-clause-known c =
    let limits = c.args.limits.now in
    let rows = c.args.tables.now.rows in
    let early = sym (ap (early_refusal_of limits rows) c.in-SetAgent.is) ∙ c.requires.early in
    not-false (has_agent rows c.in-SetAgent.agent) (no_case (cases_of_agent limits rows c.in-SetAgent.agent) early).1.0

pub refuse_reserved-requires : goal.refuse_reserved-requires
refuse_reserved-requires c = omega (arith, c.requires.few.agents, c.requires.few.ceilings.agents.1)

pub refuse_unreserved-requires : goal.refuse_unreserved-requires
unfolding early_refusal_of
refuse_unreserved-requires c =
    let limits = c.args.limits.now in
    let rows = c.args.tables.now.rows in
    let early = sym (ap (early_refusal_of limits rows) c.in-Unreserve.is) ∙ c.requires.early in
    not-false (is_unreserved c.in-Unreserve.resources)
    (no_case (cases_of_move limits rows c.in-Unreserve.agent c.in-Unreserve.role c.in-Unreserve.resources) early).1.1.1.1.0
