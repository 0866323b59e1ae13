use Rattle.std.proofs.Common.{◌≡◌, ◌++◌, take}
use Rattle.drf_core.proofs.events.frameworks.push_clients.Given as goal

abbrev pub invariant-loop-client : goal.invariant-loop-client
invariant-loop-client l = l.kept.items ≡ l.initial.kept.items ++ take l.client-index l.clients
