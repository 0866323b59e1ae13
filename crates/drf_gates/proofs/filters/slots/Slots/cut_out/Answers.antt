use Rattle.std.proofs.Common.{◌≡◌, ◌-◌, Option, None, length, set, sym, ap, ◌∙◌, arith}
use Rattle.drf_rows.specs.declared.rows.FilterRow.{FilterRow}
use Rattle.drf_hash.specs.Slots.{filled}
use Rattle.drf_gates.proofs.filters.FreeSlots.{taken-one}
use Rattle.drf_gates.proofs.filters.Held.{marks-without}
use Rattle.drf_gates.proofs.filters.slots.Slots.cut_out.Goals as goal

pub overflow_sub-self : goal.overflow_sub-self
overflow_sub-self c =
    let s = c.args.self.now in
    let one = taken-one s.rows.items c.args.place c.index_mut.result.now c.take.result c.requires.within c.index_mut.ensures.value c.take.ensures.value
    (sym c.is_some.ensures ∙ c.if-is_some.true) in
    omega (arith, c.requires.marked.live, one)

pub returns-then-is_some-clause-marked : goal.returns-then-is_some-clause-marked
returns-then-is_some-clause-marked c =
    let s = c.args.self.now in
    let one = taken-one s.rows.items c.args.place c.index_mut.result.now c.take.result c.requires.within c.index_mut.ensures.value c.take.ensures.value
    (sym c.is_some.ensures ∙ c.if-is_some.true) in
    let live : s.live - 1 ≡ length (filled (set s.rows.items c.args.place None)) = omega (arith, c.requires.marked.live, one) in
    marks-without s _ c.args.place c.requires.marked (ap (λ (slot : Option FilterRow). set s.rows.items c.args.place slot) c.take.ensures.after)
    c.part.ensures.hashes (ap (λ h. length h.items) c.part.ensures.heads) c.part.ensures.start
    c.part-then-is_some.ensures.hashes (ap (λ h. length h.items) c.part-then-is_some.ensures.heads) c.part-then-is_some.ensures.start live
