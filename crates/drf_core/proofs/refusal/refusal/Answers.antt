use Rattle.std.proofs.Common.{◌≡◌, Option, sym, ◌∙◌}
use Rattle.drf_rows.specs.Step.{first_case, refusal_of}
use Rattle.drf_rows.specs.declared.reply.Refusal.{Refusal}
use Rattle.drf_core.specs.refusal.Cases.{late_cases_of}
use Rattle.drf_core.proofs.refusing.Late.{if_ok}
use Rattle.drf_core.proofs.refusing.Tests.{reported_early, reported_late}
use Rattle.drf_core.proofs.refusal.refusal.Goals as goal

pub returns-in-Some-clause-value : goal.returns-in-Some-clause-value
returns-in-Some-clause-value c =
    sym (reported_early c.args.limits.now c.args.tables.now.rows c.args.event.now c.in-Some.refusal (sym c.refuse_early.ensures ∙ c.in-Some.is))

pub returns-in-None-clause-value : goal.returns-in-None-clause-value
returns-in-None-clause-value c =
    let limits = c.args.limits.now in
    let rows = c.args.tables.now.rows in
    let event = c.args.event.now in
    if_ok (λ (refusal : Option Refusal). refusal ≡ first_case (late_cases_of limits rows event))
    (λ (refusal : Option Refusal). refusal ≡ refusal_of limits rows event) c.refuse_late.result
    (λ refusal is. is ∙ reported_late limits rows event (sym c.refuse_early.ensures ∙ c.in-None.is)) c.refuse_late.ensures.value
