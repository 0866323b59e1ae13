use Rattle.std.proofs.Common.{◌≡◌, take}
use Rattle.drf_content.specs.Registering.{client_paths}
use Rattle.drf_core.proofs.events.frameworks.client_paths.Given as goal

abbrev pub invariant-loop-client : goal.invariant-loop-client
invariant-loop-client l = l.paths.items ≡ client_paths l.framework (take l.client-index l.clients)
