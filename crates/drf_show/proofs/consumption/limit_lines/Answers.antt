use Rattle.std.proofs.Common.{◌≡◌, List, IfOk, map, subst, ap, ◌∙◌}
use Rattle.drf_rows.specs.declared.rows.LimitRow.{LimitRow}
use Rattle.drf_show.specs.Consuming.{limit_line_by}
use Rattle.drf_show.specs.declared.limits.LimitLine.{LimitLine}
use Rattle.drf_show.proofs.Counting.{limit_line_is}
use Rattle.drf_show.proofs.consumption.limit_lines.Goals as goal

pub returns : goal.returns
returns c =
    let rows = c.args.rows.now in
    let used = c.in_ok-consumption.consumption in
    subst (λ (ls : List LimitLine). IfOk c.lines_under.result (λ lines. lines.items ≡ ls))
    (ap (λ (ls : List LimitRow). map (limit_line_by used) ls) c.as_slice.ensures ∙ (λ i. map (λ l. limit_line_is rows used l c.in_ok-consumption.ensures i) rows.limits))
    c.lines_under.ensures
