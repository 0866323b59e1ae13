use Rattle.std.proofs.Common.{◌≡◌, ◌-◌, Option, None, length, set, sym, ap, ◌∙◌, arith}
use Rattle.drf_rows.specs.declared.rows.FilterRow.{FilterRow}
use Rattle.drf_hash.specs.Slots.{filled}
use Rattle.drf_gates.proofs.filters.FreeSlots.{taken-one}
use Rattle.drf_gates.proofs.filters.Held.{marks-without, marks-slots, slots-marked}
use Rattle.drf_gates.proofs.filters.slots.Slots.take_out.Goals as goal

pub overflow_sub-self : goal.overflow_sub-self
overflow_sub-self c =
    let s = c.args.self.now in
    let one = taken-one s.rows.items c.args.place c.index_mut.result.now c.take.result c.requires.within c.index_mut.ensures.value c.take.ensures.value
    (sym c.is_some.ensures ∙ c.if-is_some.true) in
    omega (arith, c.requires.slots.live, one)

pub returns-then-is_some-clause-slots : goal.returns-then-is_some-clause-slots
returns-then-is_some-clause-slots c =
    let s = c.args.self.now in
    let one = taken-one s.rows.items c.args.place c.index_mut.result.now c.take.result c.requires.within c.index_mut.ensures.value c.take.ensures.value
    (sym c.is_some.ensures ∙ c.if-is_some.true) in
    let live : s.live - 1 ≡ length (filled (set s.rows.items c.args.place None)) = omega (arith, c.requires.slots.live, one) in
    marks-slots _
    (marks-without s _ c.args.place (slots-marked s c.requires.slots) (ap (λ (slot : Option FilterRow). set s.rows.items c.args.place slot) c.take.ensures.after)
    c.unlink.ensures.hashes c.unlink.ensures.heads c.unlink.ensures.start
    c.unlink-then-is_some.ensures.hashes c.unlink-then-is_some.ensures.heads c.unlink-then-is_some.ensures.start
    live)
    (record { pairs = c.unlink.ensures.chained; clients = c.unlink-then-is_some.ensures.chained })
