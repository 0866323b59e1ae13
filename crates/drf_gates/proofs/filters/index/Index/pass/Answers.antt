use Rattle.std.proofs.Common.{◌-◌, ◌+◌, ℕ, List, length, set, refl, ap, ◌∙◌, arith}
use Rattle.std.proofs.lemmas.List.{length-set}
use Rattle.drf_gates.specs.filters.Index.{befores}
use Rattle.drf_gates.proofs.filters.Held.{led-within, led-own, befores-long, goes-before, passed-head, passed-link, passed-from}
use Rattle.drf_gates.proofs.filters.index.Index.pass.Goals as goal

pub link-next-requires : goal.link-next-requires
link-next-requires c =
    omega (arith, led-within c.args.self.now c.args.bucket c.args.from (c.args.place + 1) c.requires.chained c.requires.known c.requires.led)

pub part-requires : goal.part-requires
part-requires c =
    omega (arith, led-within c.args.self.now c.args.bucket c.args.from (c.args.place + 1) c.requires.chained c.requires.known c.requires.led)

pub returns-then-from-eq0-clause-chained : goal.returns-then-from-eq0-clause-chained
returns-then-from-eq0-clause-chained c =
    passed-head c.args.self.now c.part.new.self.links.items c.args.bucket c.args.from c.args.place c.link-next.result.before c.requires.chained c.requires.known c.requires.led c.link-next.ensures.before
    c.part.ensures.hashes (set c.part.new.self.heads.items c.args.bucket c.link-next.result.before) c.if-from-eq0.true (ap (λ (hs : List ℕ). set hs c.args.bucket c.link-next.result.before) (ap (λ h. h.items) c.part.ensures.heads)) c.part.ensures.befores

pub set_before-requires-clause-within : goal.set_before-requires-clause-within
set_before-requires-clause-within c =
    let index = c.args.self.now in
    omega (
      arith,
      c.requires.led.small,
      c.if-from-eq0.false,
      befores-long index,
      befores-long c.part.new.self,
      ap length c.part.ensures.befores,
      length-set (befores index) c.args.place 18446744073709551615,
    )

pub set_before-requires-clause-chained : goal.set_before-requires-clause-chained
set_before-requires-clause-chained c =
    passed-from c.args.self.now c.part.new.self.links.items c.args.bucket c.args.from c.args.place c.link-next.result.before c.requires.chained c.requires.known c.requires.led
    c.link-next.ensures.before c.part.ensures.hashes (c.args.from - 1) (omega (arith, c.if-from-eq0.false))

pub set_before-requires-clause-before : goal.set_before-requires-clause-before
set_before-requires-clause-before c =
    let index = c.args.self.now in
    let within = led-within index c.args.bucket c.args.from (c.args.place + 1) c.requires.chained c.requires.known c.requires.led in
    let own = led-own index c.args.bucket c.args.from (c.args.place + 1) c.args.place c.requires.chained c.requires.known c.requires.led refl in
    let less = goes-before index c.args.place c.args.bucket c.requires.chained (omega (arith, within)) own c.requires.known in
    omega (arith, less, c.link-next.ensures.before, within, index.links.ok.0, index.links.ok.1, index.links.small)

pub returns-clause-chained : goal.returns-clause-chained
returns-clause-chained c =
    passed-link c.args.self.now c.set_before.new.self.links.items c.args.bucket c.args.from c.args.place c.link-next.result.before c.requires.chained c.requires.known c.requires.led
    c.link-next.ensures.before (c.set_before.ensures.hashes ∙ c.part.ensures.hashes) c.set_before.new.self.heads.items (c.args.from - 1) (omega (arith, c.if-from-eq0.false))
    (ap (λ h. h.items) (c.set_before.ensures.heads ∙ c.part.ensures.heads))
    (c.set_before.ensures.befores ∙ ap (λ (bs : List ℕ). set bs (c.args.from - 1) c.link-next.result.before) c.part.ensures.befores)
