use Rattle.std.proofs.Common.{◌++◌, ap, ◌∙◌}
use Rattle.std.specs.List.{flat_map}
use Rattle.drf_why.proofs.Tallied.{added_more, added_over, blank_one, blank-clients}
use Rattle.drf_why.proofs.tally.add_tallies.Goals as goal

pub loop-client-preserved : goal.loop-client-preserved
loop-client-preserved c =
    added_more (blank_one c.args.framework.now) _ c.as_slice-clients.result.now c.loop-client.client-index _ _ c.client-item.result
    c.loop-client-test.true c.client-item.is c.in_ok-add_tally.ensures c.loop-client.invariant

pub returns : goal.returns
returns c =
    added_over (blank_one c.args.framework.now) _ c.as_slice-clients.result.now c.loop-client.client-index _ c.loop-client-test.false c.loop-client.invariant
    ∙ ap (λ cs. c.args.tallies.now.items ++ flat_map (blank_one c.args.framework.now) cs) c.as_slice-clients.ensures
    ∙ ap (λ ts. c.args.tallies.now.items ++ ts) (blank-clients c.args.framework.now c.args.framework.now.clients)
