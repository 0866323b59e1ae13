use Rattle.std.proofs.Common.{ap, ◌∙◌}
use Rattle.std.specs.List.{flat_map}
use Rattle.drf_explain.specs.Explained.{suppressed_in}
use Rattle.drf_explain.proofs.Found.{added_more, added_over}
use Rattle.drf_explain.proofs.suppression.suppressed.Goals as goal

pub loop-framework-preserved : goal.loop-framework-preserved
loop-framework-preserved c =
    added_more suppressed_in _ c.as_slice-frameworks.result.now c.loop-framework.framework-index _ _ c.framework-item.result
    c.loop-framework-test.true c.framework-item.is c.in_ok-add_all_suppressed.ensures c.loop-framework.invariant

pub returns : goal.returns
returns c =
    added_over suppressed_in _ c.as_slice-frameworks.result.now c.loop-framework.framework-index _ c.loop-framework-test.false c.loop-framework.invariant
    ∙ ap (flat_map suppressed_in) c.as_slice-frameworks.ensures
