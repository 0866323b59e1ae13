use Rattle.std.proofs.Common.{◌∷◌, [], sym, ◌∙◌}
use Rattle.drf_rows.specs.Step.{accept_is_too_much, refusal_of}
use Rattle.drf_rows.specs.declared.reply.Refusal.TheVariants.{TooMany}
use Rattle.drf_core.specs.refusal.Accepting.{cases_of_tasks}
use Rattle.drf_core.proofs.refusing.Tests.{first_prefix, first_rest}
use Rattle.drf_laws.proofs.theorems.Welcome.{no_case}
use Rattle.drf_core.proofs.refusal.refuse_accept.Goals as goal

pub returns-in-Some : goal.returns-in-Some
unfolding refusal_of
returns-in-Some c =
    let limits = c.args.limits.now in
    let rows = c.args.tables.now.rows in
    let accept = c.args.accept.now in
    sym (first_prefix (cases_of_tasks limits rows accept) ((accept_is_too_much limits rows accept, TooMany) ∷ []) c.in-Some.refusal (sym c.in-Some.ensures))

pub refuse_rest-requires-clause-covered : goal.refuse_rest-requires-clause-covered
refuse_rest-requires-clause-covered c =
    (no_case (cases_of_tasks c.args.limits.now c.args.tables.now.rows c.args.accept.now) (sym c.in-None.ensures)).1.1.1.1.1.1.1.0

pub returns-in-None : goal.returns-in-None
unfolding refusal_of
returns-in-None c =
    let limits = c.args.limits.now in
    let rows = c.args.tables.now.rows in
    let accept = c.args.accept.now in
    c.refuse_rest.ensures
    ∙ sym (first_rest (cases_of_tasks limits rows accept) ((accept_is_too_much limits rows accept, TooMany) ∷ []) (sym c.in-None.ensures))
