use Rattle.std.proofs.Common.{◌≡◌, ◌+◌, take}
use Rattle.std.specs.List.{sum_by}
use Rattle.drf_tables.proofs.tables.restoring.offers_with.Given as goal

abbrev pub invariant-loop-client : goal.invariant-loop-client
invariant-loop-client l = l.sum ≡ l.offers + sum_by (λ c. c.count) (take l.client-index l.clients)
