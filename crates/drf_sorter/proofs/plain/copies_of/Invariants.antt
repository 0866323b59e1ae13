use Rattle.std.proofs.Common.{◌≡◌, take}
use Rattle.drf_sorter.proofs.plain.copies_of.Given as goal

abbrev pub invariant-loop-client : goal.invariant-loop-client
invariant-loop-client l = l.copies.items ≡ take l.client-index l.clients
