use Rattle.std.proofs.Common.{arith}
use Rattle.drf_lines.proofs.Appends.{and_then}
use Rattle.drf_lines.proofs.ReplyTexts.{fraction_is_kept}
use Rattle.drf_lines.proofs.fraction.put_fraction.Goals as goal

pub returns-then-max-from : goal.returns-then-max-from
returns-then-max-from c =
    rw (fraction_is_kept c.args.fraction.0 c.args.fraction.1 (omega arith) (omega arith)) (and_then c.in_ok-put.ensures c.put_short_fraction.ensures)

pub returns : goal.returns
returns c =
    rw (fraction_is_kept c.args.fraction.0 c.args.fraction.1 (omega arith) (omega arith)) (and_then c.in_ok-put.ensures c.put_long_fraction.ensures)
