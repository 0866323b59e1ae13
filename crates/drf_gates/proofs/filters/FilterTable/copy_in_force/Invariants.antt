use Rattle.std.proofs.Common.{◌≡◌, take}
use Rattle.drf_rows.specs.Filters.{in_force}
use Rattle.drf_hash.specs.Slots.{filled}
use Rattle.drf_gates.proofs.filters.FilterTable.copy_in_force.Given as goal

abbrev pub invariant-loop-slot : goal.invariant-loop-slot
invariant-loop-slot l = l.rows.items ≡ in_force l.now (filled (take l.slot-index l.slot-items))
