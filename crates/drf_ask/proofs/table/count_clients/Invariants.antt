use Rattle.std.proofs.Common.{◌≡◌, ◌+◌, drop, length}
use Rattle.drf_rows.specs.Held.{clients_in}
use Rattle.drf_ask.proofs.table.count_clients.Given as goal

abbrev pub invariant-loop-framework : goal.invariant-loop-framework
invariant-loop-framework l =
    l.clients + length (clients_in (drop l.framework-index l.frameworks)) ≡ length (clients_in l.frameworks)
