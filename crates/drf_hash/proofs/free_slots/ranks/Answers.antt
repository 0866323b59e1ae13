use Rattle.std.proofs.Common.{◌≡◌, ◌+◌, ◌++◌, ◌∷◌, [], ℕ, List, sym, ap, ◌∙◌, length, take, arith, take_all}
use Rattle.drf_hash.proofs.FreeSlotLaws.{counted-none, counted-some, length-ranks, ranks-next}
use Rattle.drf_hash.proofs.SlotLaws.{filled-short}
use Rattle.drf_hash.specs.Slots.{ranks_of}
use Rattle.drf_hash.proofs.free_slots.ranks.Goals as goal
use Rattle.drf_hash.proofs.free_slots.ranks.Goals.{then-is_some, else-is_some}

pub overflow_add-count : goal.overflow_add-count
overflow_add-count g c =
    let ranks = c.loop-slot.ranks in
    let before = take c.loop-slot.slot-index c.args.slots.now in
    let short = filled-short before in
    let many = ap length c.loop-slot.invariant.ranks ∙ length-ranks 0 before in
    let count = c.loop-slot.invariant.count in
    omega (arith, short, many, count, ranks.ok.0, ranks.ok.1, ranks.small)

pub loop-slot-preserved : goal.loop-slot-preserved
loop-slot-preserved g c =
    let slots = c.args.slots.now in
    let i = c.loop-slot.slot-index in
    let slot = c.slot-item.result in
    let before = c.loop-slot.invariant.count in
    let ranks : c.push.new.self.items ≡ ranks_of 0 (take (i + 1) slots) =
    c.in_ok-push.ensures.items
    ∙ ap (λ (ks : List ℕ). ks ++ c.loop-slot.count ∷ []) c.loop-slot.invariant.ranks
    ∙ ranks-next slots i slot c.loop-slot.count c.loop-slot-test.true c.slot-item.is before in
    elim c.if-is_some.branch [
      | then-is_some w ↦
          let more = counted-some slots i slot c.loop-slot-test.true c.slot-item.is (sym c.is_some.ensures ∙ w.if-is_some.true) in
          let is = w.count-is in
          record { ranks = ranks; count = omega (arith, more, before, is) }
      | else-is_some w ↦
          let more = counted-none slots i slot c.loop-slot-test.true c.slot-item.is (sym c.is_some.ensures ∙ w.if-is_some.false) in
          let is = w.count-is in
          record { ranks = ranks; count = omega (arith, more, before, is) }
    ]

pub returns : goal.returns
returns g c = c.loop-slot.invariant.ranks ∙ ap (ranks_of 0) (take_all c.loop-slot.slot-index c.args.slots.now c.loop-slot-test.false)
