use Rattle.std.proofs.Common.{arith}
use Rattle.drf_gates.proofs.quota.Prefix.{IsNext, next_part}
use Rattle.drf_gates.proofs.quota.prefixes.end_of.Goals as goal

pub overflow_add-next-in-loop-i : goal.overflow_add-next-in-loop-i
overflow_add-next-in-loop-i c =
    let next : IsNext c.args.role.now c.loop-i.i c.part.result.now =
    next_part c.args.role.now c.loop-i.i c.part.result.now c.recall.ensures.right (omega arith) c.part.ensures in
    omega (arith, next.more, next.short)

pub loop-i-preserved : goal.loop-i-preserved
loop-i-preserved c =
    let next : IsNext c.args.role.now c.loop-i.i c.part.result.now =
    next_part c.args.role.now c.loop-i.i c.part.result.now c.recall.ensures.right (omega arith) c.part.ensures in
    omega (arith, next.more)
