use Rattle.std.proofs.Common.{◌∙◌}
use Rattle.drf_sorter.proofs.ChangeLemmas.{listed_more}
use Rattle.drf_sorter.proofs.plain.paths_of.Goals as goal

pub loop-client-preserved : goal.loop-client-preserved
loop-client-preserved c =
    c.in_ok-insert.ensures.keys
    ∙ listed_more c.args.clients.now c.loop-client.paths.keys c.loop-client.client-index c.client-item.result c.in_ok-copy.field-0
    c.requires c.loop-client-test.true c.client-item.is c.loop-client.invariant c.in_ok-copy.ensures
