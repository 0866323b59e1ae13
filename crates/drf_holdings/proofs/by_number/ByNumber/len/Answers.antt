use Rattle.std.proofs.Common.{arith}
use Rattle.drf_holdings.proofs.Slots.{things-short}
use Rattle.drf_holdings.proofs.by_number.ByNumber.len.Goals as goal

pub returns-clause-fits : goal.returns-clause-fits
returns-clause-fits g c =
    let slots = c.self.inside.slots in
    let short = things-short slots.items in
    omega (arith, short, c.self.invariant.counted, slots.ok.0, slots.ok.1, slots.small)
