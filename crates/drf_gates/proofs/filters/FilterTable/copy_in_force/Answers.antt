use Rattle.drf_rows.specs.Filters.{is_in_force}
use Rattle.drf_gates.proofs.filters.FreeSlots.{more-filter}
use Rattle.drf_gates.proofs.filters.FilterTable.copy_in_force.Goals as goal

pub loop-slot-preserved : goal.loop-slot-preserved
loop-slot-preserved c =
    more-filter (is_in_force c.args.now) c.deref-slot-items.result.now c.loop-slot.slot-index c.slot-item.result c.loop-slot.rows.items
    c.copy_slot_in_force.new.rows.items c.loop-slot-test.true c.slot-item.is c.loop-slot.invariant c.in_ok-copy_slot_in_force.ensures
