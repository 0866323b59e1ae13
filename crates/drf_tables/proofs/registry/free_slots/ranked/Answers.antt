use Rattle.std.proofs.Common.{sym, ◌∙◌, arith}
use Rattle.drf_tables.proofs.registry.Slots.{ranked-full}
use Rattle.drf_tables.proofs.registry.free_slots.ranked.Goals as goal

pub returns-then-live-slots : goal.returns-then-live-slots
returns-then-live-slots g c =
    let full = sym c.requires.live ∙ c.if-live-slots.true in
    let within = c.requires.within in
    ranked-full c.args.slots.now c.args.number full (omega (arith, within, full))
