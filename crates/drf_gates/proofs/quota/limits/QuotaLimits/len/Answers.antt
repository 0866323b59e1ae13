use Rattle.std.proofs.Common.{List, length, sym, ap, ◌∙◌}
use Rattle.std.proofs.lemmas.List.{length-map}
use Rattle.drf_rows.specs.declared.rows.LimitRow.{LimitRow}
use Rattle.drf_gates.specs.quota.Allowance.{limit_row}
use Rattle.drf_gates.proofs.quota.limits.QuotaLimits.len.Goals as goal

pub returns : goal.returns
returns c =
    c.len.ensures.len
    ∙ sym (length-map c.self.inside.limits.entries limit_row)
    ∙ ap (λ (ls : List LimitRow). length ls) c.self.view_is
