use Rattle.std.proofs.Common.{length}
use Rattle.drf_core.proofs.events.frameworks.+add_clients.Given as goal

abbrev pub decreases-add_clients : goal.decreases-add_clients
decreases-add_clients g l = length l.paths.now
