use Rattle.drf_gates.proofs.filters.FreeSlots.{more-all}
use Rattle.drf_gates.proofs.filters.FilterTable.copy.Goals as goal

pub loop-slot-preserved : goal.loop-slot-preserved
loop-slot-preserved c =
    more-all c.deref-slot-items.result.now c.loop-slot.slot-index c.slot-item.result c.loop-slot.copy
    c.add_slot.new.self c.loop-slot-test.true c.slot-item.is c.loop-slot.invariant c.in_ok-add_slot.ensures
