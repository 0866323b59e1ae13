use Rattle.std.proofs.Common.{◌≡◌, map, take}
use Rattle.drf_tables.proofs.tables.Names.{filled, agent_row}
use Rattle.drf_tables.proofs.tables.listing.agent_rows.Given as goal

abbrev pub invariant-loop-slot : goal.invariant-loop-slot
invariant-loop-slot l = l.rows.items ≡ map agent_row (filled (take l.slot-index l.slot-items))
