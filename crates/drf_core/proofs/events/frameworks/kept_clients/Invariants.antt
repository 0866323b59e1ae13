use Rattle.std.proofs.Common.{◌≡◌, take}
use Rattle.drf_rows.specs.Roles.{clients_kept}
use Rattle.drf_core.proofs.events.frameworks.kept_clients.Given as goal

abbrev pub invariant-loop-client : goal.invariant-loop-client
invariant-loop-client l = l.kept.items ≡ clients_kept l.roles (take l.client-index l.clients)
