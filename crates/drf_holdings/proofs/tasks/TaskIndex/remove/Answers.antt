use Rattle.drf_holdings.proofs.Unlisted.{listed_without}
use Rattle.drf_holdings.proofs.tasks.TaskIndex.remove.Goals as goal

pub returns : goal.returns
returns c before after rising listed =
    listed_without c.args.self.now c.remove.new.self c.take.new.self before after c.args.task.now rising c.remove.ensures c.take.ensures.left listed
