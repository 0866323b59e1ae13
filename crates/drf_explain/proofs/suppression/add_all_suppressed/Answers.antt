use Rattle.std.proofs.Common.{◌++◌, ap, ◌∙◌}
use Rattle.std.specs.List.{flat_map}
use Rattle.drf_explain.specs.Explained.{reported_if_suppressed}
use Rattle.drf_explain.proofs.Found.{added_more, added_over}
use Rattle.drf_explain.proofs.suppression.add_all_suppressed.Goals as goal

pub loop-client-preserved : goal.loop-client-preserved
loop-client-preserved c =
    added_more (reported_if_suppressed c.args.framework.now) _ c.as_slice-clients.result.now c.loop-client.client-index _ _ c.client-item.result
    c.loop-client-test.true c.client-item.is c.in_ok-add_suppressed.ensures c.loop-client.invariant

pub returns : goal.returns
returns c =
    added_over (reported_if_suppressed c.args.framework.now) _ c.as_slice-clients.result.now c.loop-client.client-index _ c.loop-client-test.false c.loop-client.invariant
    ∙ ap (λ cs. c.args.findings.now.items ++ flat_map (reported_if_suppressed c.args.framework.now) cs) c.as_slice-clients.ensures
