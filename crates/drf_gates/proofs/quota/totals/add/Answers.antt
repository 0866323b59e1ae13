use Rattle.drf_gates.proofs.quota.Total.{added_more}
use Rattle.drf_gates.proofs.quota.totals.add.Goals as goal

pub loop-entry-preserved : goal.loop-entry-preserved
loop-entry-preserved c =
    added_more c.args.sum.now c.loop-entry.sum c.args.more.now c.entries-entry-items.result.now c.loop-entry.entry-index c.entry-item.result
    c.loop-entry-test.true c.entry-item.is c.loop-entry.invariant c.add_entry.new.sum (c.add_entry.ensures c.if-not-add_entry.false)
