use Rattle.std.proofs.Common.{◌≡◌, take}
use Rattle.drf_tables.proofs.tables.Names.{filled, framework_rows}
use Rattle.drf_tables.proofs.tables.listing.framework_rows.Given as goal

abbrev pub invariant-loop-slot : goal.invariant-loop-slot
invariant-loop-slot l = l.rows.items ≡ framework_rows (filled (take l.slot-index l.slot-items))
