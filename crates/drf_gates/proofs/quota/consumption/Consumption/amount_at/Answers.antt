use Rattle.std.proofs.Common.{List, ap, ◌∙◌}
use Rattle.drf_gates.specs.quota.Allowance.{Usage, used_at}
use Rattle.drf_gates.proofs.quota.consumption.Consumption.amount_at.Goals as goal

pub returns-in-Some : goal.returns-in-Some
returns-in-Some c =
    c.in-Some.ensures c.self.inside.used.entries c.self.invariant.exact
    ∙ ap (λ (us : List Usage). used_at us c.args.role.now c.args.label.now) c.self.view_is
