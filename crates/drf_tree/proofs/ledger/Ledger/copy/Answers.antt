use Rattle.std.proofs.Common.{ap, ◌∙◌}
use Rattle.drf_tree.proofs.Names.{ledger_content}
use Rattle.drf_tree.proofs.ledger.Rows.{copied_free_slot, copied_some, copy_is_new}
use Rattle.drf_tree.proofs.ledger.Ledger.copy.Goals as goal
use Rattle.drf_tree.proofs.ledger.Ledger.copy.Goals.{in-Some+in_ok-copy+in_ok-push, in_default}

pub push-requires : goal.push-requires
push-requires c =
    copy_is_new c.args.self.now c.loop-slot.copy c.deref-slot-items.result.now c.deref-slot-items.ensures.value c.loop-slot.slot-index c.slot-item.result
    c.loop-slot-test.true c.slot-item.is c.loop-slot.invariant c.in-Some.booked c.in_ok-copy.field-0 c.in-Some.is c.in_ok-copy.ensures

pub loop-slot-preserved : goal.loop-slot-preserved
loop-slot-preserved c =
    elim c.match-slot.branch [
      | in-Some+in_ok-copy+in_ok-push w ↦
          ap ledger_content w.copy-is
          ∙ copied_some c.args.self.now c.loop-slot.copy c.deref-slot-items.result.now c.deref-slot-items.ensures.value c.loop-slot.slot-index
          c.slot-item.result c.loop-slot-test.true c.slot-item.is c.loop-slot.invariant w.push.new.self w.in-Some.booked w.in_ok-copy.field-0 w.in-Some.is
          w.in_ok-copy.ensures w.in_ok-push.ensures.ok
      | in_default w ↦
          ap ledger_content w.copy-is
          ∙ copied_free_slot c.args.self.now c.loop-slot.copy c.deref-slot-items.result.now c.deref-slot-items.ensures.value c.loop-slot.slot-index
          c.slot-item.result c.loop-slot-test.true c.slot-item.is c.loop-slot.invariant w.in_default.is
    ]
