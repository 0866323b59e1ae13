use Rattle.drf_rows.proofs.TaskLaws.{covers_from}
use Rattle.drf_rows.proofs.tasks.covers.Goals as goal

pub returns : goal.returns
returns c =
    covers_from c.covers.result c.args.whole.now c.args.part.now c.covers.ensures.given.0 c.covers.ensures.given.1 c.covers.ensures.covers
