use Rattle.std.proofs.Common.{◌++◌, string_bytes, arith, get_or, ◌∙◌}
use Rattle.drf_show.specs.Aligned.{padded}
use Rattle.drf_show.proofs.RowTexts.{cell_more}
use Rattle.drf_show.proofs.aligned.push_cells.Goals as goal

pub loop-column-preserved : goal.loop-column-preserved
loop-column-preserved c =
    let added = c.in_ok-push_padded.ensures ∙ (λ i. c.loop-column.text.items ++ padded (c.width_in.ensures i) (c.as_str.ensures.value i)) in
    cell_more string_bytes (λ q. get_or c.args.widths.now q 0) c.args.cells.now _ _ _ c.loop-column.column c.index-cells-column.result
    c.loop-column-test.true (omega (arith, c.loop-column-test.true, c.if-column-cells.false)) c.index-cells-column.is c.loop-column.invariant added
