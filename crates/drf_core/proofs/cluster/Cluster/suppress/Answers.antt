use Rattle.std.proofs.Common.{arith}
use Rattle.drf_sorter.proofs.theorems.SpendLaws.{defers-on_ok, defers-within}
use Rattle.drf_core.proofs.effects.Ended.{known-client, sorted-suppressed, effect-suppressed}
use Rattle.drf_core.proofs.cluster.Cluster.suppress.Goals as goal

pub set_active-requires : goal.set_active-requires
set_active-requires g c =
    known-client c.self.inside.tables.rows c.args.role.now c.args.framework.now (g.S.Sorter.content c.self.inside.sorter) c.in_ok-path.path
    c.self.invariant c.in_ok-path.ensures (rw (← c.self.view_is) at c.requires)

pub invariant_of-self : goal.invariant_of-self
invariant_of-self g c =
    sorted-suppressed c.self.inside.tables.rows c.suppress.new.self.rows c.args.role.now c.args.framework.now
    (g.S.Sorter.content c.self.inside.sorter) (g.S.Sorter.content c.set_active.new.self) c.in_ok-path.path
    c.self.invariant c.in_ok-path.ensures c.suppress.ensures c.set_active.ensures.content

pub returns-clause-ok : goal.returns-clause-ok
returns-clause-ok g c =
    rw (← c.self.view_is) (effect-suppressed c.self.inside.tables.rows c.suppress.new.self.rows c.args.role.now c.args.framework.now c.suppress.ensures)

pub returns-clause-spends : goal.returns-clause-spends
returns-clause-spends g c = rw (← c.self.view_is) (defers-on_ok _ (defers-within c.set_active.ensures.spends (omega arith)))
