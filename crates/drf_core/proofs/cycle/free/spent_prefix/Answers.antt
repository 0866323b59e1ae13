use Rattle.std.proofs.Common.{arith}
use Rattle.std.specs.Option.{option_copied}
use Rattle.drf_core.proofs.drafting.Barred.{barred-prefix}
use Rattle.drf_core.proofs.drafting.Near.{near_more}
use Rattle.drf_core.proofs.cycle.free.spent_prefix.Goals as goal

pub returns : goal.returns
returns c =
    barred-prefix (option_copied c.args.quota) c.args.free.now c.args.role.now c.in_ok-cpus.cpus c.in_ok-mem.mem c.max-2.result
    c.recall.ensures c.recall-2.ensures.right c.in_ok-reserved.ensures.none
    (near_more c.args.role.now c.in_ok-reserved.reserved c.max-2.result (omega (arith, c.max-2.ensures)) c.args.free.now c.in_ok-reserved.ensures.near)
    (omega (arith, c.max-2.ensures, c.max.ensures)) (omega (arith, c.max-2.ensures, c.max.ensures))
    (omega (arith, c.max-2.ensures, c.max.ensures, c.in_ok-cpus.ensures.within, c.in_ok-mem.ensures.within, c.in_ok-reserved.ensures.within))
    c.in_ok-cpus.ensures.short c.in_ok-mem.ensures.short
