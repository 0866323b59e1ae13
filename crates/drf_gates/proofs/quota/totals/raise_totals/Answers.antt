use Rattle.std.proofs.Common.{arith}
use Rattle.drf_gates.proofs.quota.Carry.{carried_end, carried_start, raised_same}
use Rattle.drf_gates.proofs.quota.totals.raise_totals.Goals as goal

pub loop-len-init : goal.loop-len-init
loop-len-init c = λ old new changed exact. carried_start old new c.args.role.now c.args.totals.now.entries exact

pub loop-len-preserved : goal.loop-len-preserved
loop-len-preserved c = λ old new changed exact. c.raise_prefix.ensures old new changed (c.loop-len.invariant old new changed exact)

pub returns : goal.returns
returns c = λ old new changed exact.
    carried_end old new c.args.role.now c.loop-len.len (omega (arith, c.len-prefixes.ensures.len, c.loop-len-test.false)) c.loop-len.totals.entries
    (raised_same old new c.args.role.now c.args.amounts.now changed)
    (c.loop-len.invariant old new changed exact)
