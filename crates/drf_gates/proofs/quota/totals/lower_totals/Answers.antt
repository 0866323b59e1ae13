use Rattle.std.proofs.Common.{sym, arith}
use Rattle.drf_gates.proofs.quota.Carry.{carried_end, carried_start, raised_same}
use Rattle.drf_gates.proofs.quota.totals.lower_totals.Goals as goal

pub loop-len-init : goal.loop-len-init
loop-len-init c = λ old new changed exact. carried_start old new c.args.role.now c.args.totals.now.entries exact

pub loop-len-preserved : goal.loop-len-preserved
loop-len-preserved c = λ old new changed exact. c.lower_prefix.ensures old new changed (c.loop-len.invariant old new changed exact)

pub returns : goal.returns
returns c = λ old new changed exact.
    carried_end old new c.args.role.now c.loop-len.len (omega (arith, c.len-prefixes.ensures.len, c.loop-len-test.false)) c.loop-len.totals.entries
    (λ outer past label. sym (raised_same new old c.args.role.now c.args.amounts.now changed outer past label))
    (c.loop-len.invariant old new changed exact)
