use Rattle.std.proofs.Common.{◌≡◌, take}
use Rattle.drf_hash.specs.Slots.{filled}
use Rattle.drf_tables.proofs.tables.copied.copy_agents.Given as goal

abbrev pub invariant-loop-slot : goal.invariant-loop-slot
invariant-loop-slot l = l.copy.entries ≡ filled (take l.slot-index l.slot-items)
