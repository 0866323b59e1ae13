use Rattle.drf_rows.specs.Step.{effect}
use Rattle.drf_core.proofs.cluster.Cluster.rescind.Goals as goal

pub returns-clause-rows : goal.returns-clause-rows
unfolding effect
returns-clause-rows g c = c.end.ensures.rows
