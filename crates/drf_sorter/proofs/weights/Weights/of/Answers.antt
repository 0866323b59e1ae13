use Rattle.std.proofs.Common.{ap, ◌∙◌}
use Rattle.std.specs.List.{find}
use Rattle.drf_role.specs.Path.{same_path}
use Rattle.drf_rows.specs.declared.rows.WeightRow.{WeightRow}
use Rattle.drf_row_laws.proofs.WeightLaws.{weight-found}
use Rattle.drf_sorter.proofs.weights.Weights.of.Goals as goal

pub returns-in-Some-clause-weighs : goal.returns-in-Some-clause-weighs
returns-in-Some-clause-weighs c =
    let is_here = λ (w : WeightRow). same_path w.role c.args.node.now in
    (weight-found is_here c.args.self.now.rows.items c.in-Some.row.now c.args.self.now.weighs
    (c.in-Some.ensures ∙ ap (find is_here) c.deref.ensures.value)).0

pub returns-in-Some-clause-light : goal.returns-in-Some-clause-light
returns-in-Some-clause-light c =
    let is_here = λ (w : WeightRow). same_path w.role c.args.node.now in
    (weight-found is_here c.args.self.now.rows.items c.in-Some.row.now c.args.self.now.weighs
    (c.in-Some.ensures ∙ ap (find is_here) c.deref.ensures.value)).1
