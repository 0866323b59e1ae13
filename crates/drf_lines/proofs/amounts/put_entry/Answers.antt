use Rattle.std.proofs.Common.{arith}
use Rattle.drf_lines.proofs.Appends.{and_then}
use Rattle.drf_lines.proofs.LeftAmounts.{entry_is_kept}
use Rattle.drf_lines.proofs.amounts.put_entry.Goals as goal

pub returns : goal.returns
returns c =
    rw (entry_is_kept c.args.entry.now c.text.ensures.right (omega arith))
    (and_then (rw c.text.ensures.text at c.in_ok-put.ensures) (and_then c.in_ok-put_byte.ensures (rw c.thousandths.ensures at c.put_amount.ensures)))
