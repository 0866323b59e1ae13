use Rattle.std.proofs.Common.{refl}
use Rattle.drf_gates.proofs.quota.Total.{taken_more}
use Rattle.drf_gates.proofs.quota.totals.take.Goals as goal

pub loop-entry-preserved : goal.loop-entry-preserved
loop-entry-preserved c =
    taken_more c.loop-entry.sum c.args.sum.now c.args.less.now c.entries-entry-items.result.now c.loop-entry.entry-index c.entry-item.result
    c.loop-entry-test.true c.entry-item.is c.loop-entry.invariant c.take_entry.new.sum c.entry-item.result.label c.thousandths.result
    refl c.thousandths.ensures (c.take_entry.ensures c.if-not-take_entry.false)
