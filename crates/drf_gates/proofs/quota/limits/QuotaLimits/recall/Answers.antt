use Rattle.std.proofs.Common.{List, [], sym, ap, ◌∙◌}
use Rattle.drf_rows.specs.declared.rows.LimitRow.{LimitRow}
use Rattle.drf_gates.specs.quota.Prefix.{limits_at}
use Rattle.drf_gates.proofs.quota.Prefix.{none_at}
use Rattle.drf_gates.proofs.quota.limits.QuotaLimits.recall.Goals as goal

pub returns : goal.returns
returns c =
    ap (λ (ls : List LimitRow). limits_at [] ls) (sym c.self.view_is)
    ∙ none_at [] c.self.inside.limits.entries c.self.invariant
