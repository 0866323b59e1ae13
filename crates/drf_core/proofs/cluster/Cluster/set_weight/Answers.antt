use Rattle.std.proofs.Common.{◌∙◌}
use Rattle.drf_rows.specs.Weights.{weights_with}
use Rattle.drf_row_laws.proofs.WeightLaws.{in_range}
use Rattle.drf_rows.specs.declared.rows.Rows.{Rows}
use Rattle.drf_laws.proofs.theorems.Welcome.{welcome_weight}
use Rattle.drf_core.proofs.effects.Weighed.{sorted-weight, effect-weight}
use Rattle.drf_core.proofs.cluster.Cluster.set_weight.Goals as goal

pub set_weight-requires-clause-weighs : goal.set_weight-requires-clause-weighs
set_weight-requires-clause-weighs g c =
    (in_range c.args.weight (welcome_weight c.args.limits.now c.args.self.now.rows c.args.role c.args.weight c.requires).right).0

pub set_weight-requires-clause-light : goal.set_weight-requires-clause-light
set_weight-requires-clause-light g c =
    (in_range c.args.weight (welcome_weight c.args.limits.now c.args.self.now.rows c.args.role c.args.weight c.requires).right).1

pub set_weight-requires-2-clause-right : goal.set_weight-requires-2-clause-right
set_weight-requires-2-clause-right g c = (welcome_weight c.args.limits.now c.args.self.now.rows c.args.role c.args.weight c.requires).right

pub invariant_of-self-2 : goal.invariant_of-self-2
invariant_of-self-2 g c =
    let rows : Rows = c.self.inside.tables.rows in
    sorted-weight rows c.set_weight-2.new.self.rows c.args.role c.args.weight (g.S.Sorter.content c.self.inside.sorter) (g.S.Sorter.content c.set_weight.new.self)
    c.self.invariant
    (c.set_weight-2.ensures.rows ∙ (λ i. record (c.reserve_weight.ensures.same i) { weights = weights_with (c.reserve_weight.ensures.same i).weights c.args.role c.args.weight }))
    c.in_ok-set_weight.ensures.ok

pub returns-clause-ok : goal.returns-clause-ok
returns-clause-ok g c =
    rw (← c.self.view_is) (effect-weight c.self.inside.tables.rows c.set_weight-2.new.self.rows c.args.role c.args.weight
    (c.set_weight-2.ensures.rows ∙ (λ i. record (c.reserve_weight.ensures.same i) { weights = weights_with (c.reserve_weight.ensures.same i).weights c.args.role c.args.weight })))
