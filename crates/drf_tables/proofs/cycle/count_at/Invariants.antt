use Rattle.std.proofs.Common.{◌≡◌, ◌++◌, map, take, drop}
use Rattle.drf_tables.proofs.tables.Names.{counted, holding_of_offer}
use Rattle.drf_tables.proofs.cycle.count_at.Given as goal

abbrev pub invariant-loop-client : goal.invariant-loop-client
invariant-loop-client l =
    l.clients ≡ map (counted (holding_of_offer l.offer).client) (take l.client-index l.fn.clients) ++ drop l.client-index l.fn.clients
