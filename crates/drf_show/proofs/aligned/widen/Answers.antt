use Rattle.std.proofs.Common.{ℕ, ap, length, subst, string_bytes}
use Rattle.drf_show.specs.Aligned.{IsWidenedAt}
use Rattle.drf_show.proofs.Widths.{widened_next}
use Rattle.drf_show.proofs.aligned.widen.Goals as goal

pub loop-column-preserved : goal.loop-column-preserved
loop-column-preserved c =
    let now = c.loop-column.widths.items in
    let new = c.widen_at.new.widths.items in
    let widened = subst (λ (n : ℕ). IsWidenedAt now new c.loop-column.column n) (ap length c.as_str.ensures.value) c.in_ok-widen_at.ensures in (
      widened_next string_bytes c.args.cells.now c.loop-column.column c.index-cells-column.result c.loop-column-test.true c.index-cells-column.is
          c.args.widths.now.items now new c.loop-column.invariant.0 widened,
      widened.reached,
    )
