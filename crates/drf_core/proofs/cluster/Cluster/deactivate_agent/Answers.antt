use Rattle.std.proofs.Common.{ap, ◌∙◌, arith}
use Rattle.drf_sorter.proofs.theorems.SpendLaws.{defers-both, defers-nothing, defers-within}
use Rattle.drf_core.specs.Cluster.{ClusterState}
use Rattle.drf_core.proofs.effects.Ended.{sorted-activity, effect-deactivated}
use Rattle.drf_core.proofs.cluster.Cluster.deactivate_agent.Goals as goal

pub invariant_of-self : goal.invariant_of-self
invariant_of-self g c =
    sorted-activity c.self.inside.tables.rows c.set_active.new.self.rows c.args.agent.now _ (g.S.Sorter.content c.self.inside.sorter) c.self.invariant c.set_active.ensures.rows

pub returns-clause-rows : goal.returns-clause-rows
returns-clause-rows g c =
    effect-deactivated c.args.self.now.rows c.self.inside.tables.rows c.set_active.new.self.rows c.args.agent.now
    (ap (λ (s : ClusterState). s.rows) c.self.view_is ∙ c.end.ensures.rows) c.set_active.ensures.rows

pub returns-clause-spends : goal.returns-clause-spends
returns-clause-spends g c =
    defers-within (defers-both c.end.ensures.spends (defers-nothing (ap (λ (s : ClusterState). s.work) c.self.view_is))) (omega arith)
