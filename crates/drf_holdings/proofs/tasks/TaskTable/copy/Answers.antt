use Rattle.drf_holdings.proofs.Running.{all_new}
use Rattle.drf_holdings.proofs.tasks.TaskTable.copy.Goals as goal

pub renumbered-requires : goal.renumbered-requires
renumbered-requires c = all_new c.self.inside.index c.self.inside.tasks c.self.invariant.listed
