use Rattle.std.proofs.Common.{take}
use Rattle.drf_gates.specs.filters.Index.{NoneEndsBefore}
use Rattle.drf_hash.specs.Slots.{filled}
use Rattle.drf_gates.proofs.filters.row.soonest.Given as goal

abbrev pub invariant-loop-slot : goal.invariant-loop-slot
invariant-loop-slot l = NoneEndsBefore l.soonest (filled (take l.slot-index l.rows))
