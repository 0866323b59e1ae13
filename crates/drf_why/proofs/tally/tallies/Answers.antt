use Rattle.std.proofs.Common.{ap, ◌∙◌}
use Rattle.std.specs.List.{flat_map}
use Rattle.drf_why.proofs.Tallied.{added_more, added_over, blank_in, blank-frameworks}
use Rattle.drf_why.proofs.tally.tallies.Goals as goal

pub loop-framework-preserved : goal.loop-framework-preserved
loop-framework-preserved c =
    added_more blank_in _ c.as_slice-frameworks.result.now c.loop-framework.framework-index _ _ c.framework-item.result
    c.loop-framework-test.true c.framework-item.is c.in_ok-add_tallies.ensures c.loop-framework.invariant

pub returns : goal.returns
returns c =
    added_over blank_in _ c.as_slice-frameworks.result.now c.loop-framework.framework-index _ c.loop-framework-test.false c.loop-framework.invariant
    ∙ ap (flat_map blank_in) c.as_slice-frameworks.ensures
    ∙ blank-frameworks c.args.rows.now.frameworks
