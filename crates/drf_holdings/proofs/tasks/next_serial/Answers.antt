use Rattle.drf_holdings.proofs.Running.{all_new}
use Rattle.drf_holdings.proofs.tasks.next_serial.Goals as goal

pub renumbered-requires : goal.renumbered-requires
renumbered-requires c = all_new c.args.index.now c.args.tasks.now c.requires.listed
