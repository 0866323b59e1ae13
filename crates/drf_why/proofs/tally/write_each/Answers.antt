use Rattle.drf_why.specs.Tally.{tally_lines}
use Rattle.drf_why.proofs.Tallied.{added_more, added_over}
use Rattle.drf_why.proofs.tally.write_each.Goals as goal

pub loop-tally-preserved : goal.loop-tally-preserved
loop-tally-preserved c =
    added_more (tally_lines c.args.shares.now.report.now) _ c.args.tallies.now c.loop-tally.tally-index _ _ c.tally-item.result
    c.loop-tally-test.true c.tally-item.is c.in_ok-write_tally.ensures c.loop-tally.invariant

pub returns : goal.returns
returns c = added_over (tally_lines c.args.shares.now.report.now) _ c.args.tallies.now c.loop-tally.tally-index _ c.loop-tally-test.false c.loop-tally.invariant
