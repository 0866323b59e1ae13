use Rattle.std.proofs.Common.{List, ap, ◌∙◌}
use Rattle.drf_rows.specs.Quota.{limit_of}
use Rattle.drf_rows.specs.declared.rows.LimitRow.{LimitRow}
use Rattle.drf_gates.proofs.quota.Rows.{limit_found}
use Rattle.drf_gates.proofs.quota.limits.QuotaLimits.get.Goals as goal

pub returns : goal.returns
returns c =
    c.get.ensures.value
    ∙ limit_found c.args.role.now c.self.inside.limits.entries
    ∙ ap (λ (ls : List LimitRow). limit_of ls c.args.role.now) c.self.view_is
