use Rattle.std.proofs.Common.{subst}
use Rattle.std.proofs.lemmas.List.{take_all}
use Rattle.drf_gates.specs.filters.Index.{NoneEndsBefore}
use Rattle.drf_hash.specs.Slots.{filled}
use Rattle.drf_gates.proofs.filters.Held.{none_before-slot}
use Rattle.drf_gates.proofs.filters.row.soonest.Goals as goal

pub loop-slot-preserved : goal.loop-slot-preserved
loop-slot-preserved c =
    none_before-slot c.loop-slot.soonest c.earlier-soonest.result c.args.rows.now c.loop-slot.slot-index c.slot-item.result c.loop-slot-test.true c.slot-item.is
    c.earlier-soonest.ensures.at_most c.earlier-soonest.ensures.none c.loop-slot.invariant

pub returns : goal.returns
returns c =
    subst (λ rows. NoneEndsBefore c.loop-slot.soonest (filled rows)) (take_all c.loop-slot.slot-index c.args.rows.now c.loop-slot-test.false) c.loop-slot.invariant
