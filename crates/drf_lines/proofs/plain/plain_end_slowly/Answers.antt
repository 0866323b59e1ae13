use Rattle.std.proofs.Common.{arith}
use Rattle.drf_lines.proofs.Lanes.{none_between, one_more_between}
use Rattle.drf_lines.proofs.plain.plain_end_slowly.Goals as goal

pub loop-i-init : goal.loop-i-init
loop-i-init c = (omega arith, omega arith, none_between _ c.args.from)

pub loop-i-preserved : goal.loop-i-preserved
loop-i-preserved c =
    let plain = c.loop-i.invariant in
    (omega arith, omega arith, one_more_between _ c.args.from c.loop-i.i plain.2 (grind arith))
