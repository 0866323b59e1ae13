use Rattle.std.proofs.Common.{Some, None, ◌∙◌}
use Rattle.drf_bundle.specs.Bundle.{key_of}
use Rattle.drf_rows.proofs.TaskLaws.{scalar_found}
use Rattle.drf_rows.proofs.tasks.scalar_in.Goals as goal

pub returns-in-Some : goal.returns-in-Some
returns-in-Some c =
    c.thousandths.ensures
    ∙ scalar_found c.args.bundle.now (key_of c.args.resource.now) (Some c.in-Some.value.now) c.recall.ensures c.in-Some.ensures

pub returns-in-None : goal.returns-in-None
returns-in-None c = scalar_found c.args.bundle.now (key_of c.args.resource.now) None c.recall.ensures c.in-None.ensures
