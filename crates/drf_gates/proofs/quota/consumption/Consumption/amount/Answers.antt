use Rattle.std.proofs.Common.{List, ap, ◌∙◌}
use Rattle.drf_rows.specs.Quota.{is_within}
use Rattle.drf_gates.specs.quota.Allowance.{Usage, used_at}
use Rattle.drf_gates.proofs.quota.consumption.Consumption.amount.Goals as goal

pub returns-in-Some-clause-value : goal.returns-in-Some-clause-value
returns-in-Some-clause-value c =
    c.in-Some.ensures c.self.inside.used.entries c.self.invariant.exact
    ∙ ap (λ (us : List Usage). used_at us c.args.role.now c.args.label.now) c.self.view_is

pub returns-in-Some-clause-of_rows : goal.returns-in-Some-clause-of_rows
returns-in-Some-clause-of_rows c = λ rows its.
    c.in-Some.ensures c.self.inside.used.entries c.self.invariant.exact
    ∙ ap (λ (us : List Usage). used_at us c.args.role.now c.args.label.now) c.self.view_is
    ∙ its (is_within c.args.role.now) c.args.label.now
