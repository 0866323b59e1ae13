use Rattle.std.proofs.Common.{◌≡◌, map, take}
use Rattle.drf_sorter.proofs.plain.paths_of.Given as goal

abbrev pub invariant-loop-client : goal.invariant-loop-client
invariant-loop-client l = l.paths.keys ≡ map (λ c. c.path) (take l.client-index l.clients)
