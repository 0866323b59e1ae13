use Rattle.std.proofs.Common.{◌≡◌, take}
use Rattle.drf_content.specs.Registering.{paths_left}
use Rattle.drf_core.proofs.events.frameworks.left_paths.Given as goal

abbrev pub invariant-loop-client : goal.invariant-loop-client
invariant-loop-client l = l.paths.items ≡ paths_left l.framework l.roles (take l.client-index l.clients)
