use Rattle.std.proofs.Common.{length, sym, ap, ◌∙◌, arith, take_all}
use Rattle.drf_hash.specs.Slots.{filled}
use Rattle.drf_hash.proofs.FreeSlotLaws.{counted-none, counted-some}
use Rattle.drf_tables.proofs.registry.Slots.{Slots, ranked_here}
use Rattle.drf_tables.proofs.registry.free_slots.ranked_among_free_slots.Goals as goal
use Rattle.drf_tables.proofs.registry.free_slots.ranked_among_free_slots.Goals.{then-is_some+else-before-number, else-is_some}

pub returns-then-before-number : goal.returns-then-before-number
returns-then-before-number g c =
    let is = sym c.is_some.ensures ∙ c.if-is_some.true in
    let before = sym c.loop-place.invariant.before ∙ c.if-before-number.true in
    ranked_here c.args.slots.now c.loop-place.place c.index-slots-place.result c.args.number c.loop-place-test.true c.index-slots-place.is is before

pub loop-place-preserved : goal.loop-place-preserved
loop-place-preserved g c =
    let slots = c.args.slots.now in
    let i = c.loop-place.place in
    let slot = c.index-slots-place.result in
    let before = c.loop-place.invariant.before in
    let few = c.loop-place.invariant.few in
    elim c.if-is_some.branch [
      | then-is_some+else-before-number w ↦
          let more = counted-some slots i slot c.loop-place-test.true c.index-slots-place.is (sym c.is_some.ensures ∙ w.if-is_some.true) in
          let is = w.before-is in
          let other = w.if-before-number.false in
          record { before = omega (arith, more, before, is); few = grind (arith, few, is, other) }
      | else-is_some w ↦
          let more = counted-none slots i slot c.loop-place-test.true c.index-slots-place.is (sym c.is_some.ensures ∙ w.if-is_some.false) in
          let is = w.before-is in
          record { before = omega (arith, more, before, is); few = omega (arith, few, is) }
    ]

pub returns : goal.returns
returns g c =
    let all = c.loop-place.invariant.before
    ∙ ap (λ (ss : Slots g.row.T.Denot). length (filled ss)) (take_all c.loop-place.place c.args.slots.now c.loop-place-test.false) in
    let few = c.loop-place.invariant.few in
    let within = c.requires in
    absurd (omega (arith, all, few, within))
