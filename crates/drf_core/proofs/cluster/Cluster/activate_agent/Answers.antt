use Rattle.drf_core.proofs.effects.Ended.{sorted-activity, effect-activated}
use Rattle.drf_core.proofs.cluster.Cluster.activate_agent.Goals as goal

pub invariant_of-self : goal.invariant_of-self
invariant_of-self g c =
    sorted-activity c.self.inside.tables.rows c.set_active.new.self.rows c.args.agent.now _ (g.S.Sorter.content c.self.inside.sorter) c.self.invariant c.set_active.ensures.rows

pub returns-clause-rows : goal.returns-clause-rows
returns-clause-rows g c =
    rw (← c.self.view_is) (effect-activated c.self.inside.tables.rows c.set_active.new.self.rows c.args.agent.now c.set_active.ensures.rows)
