use Rattle.std.proofs.Common.{length, ap, arith}
use Rattle.drf_holdings.proofs.Slots.{things-short}
use Rattle.drf_holdings.proofs.by_number.ByNumber.values.Goals as goal

pub returns-clause-fits : goal.returns-clause-fits
returns-clause-fits g c =
    let slots = c.self.inside.slots in
    let short = things-short slots.items in
    let seen = ap (λ xs. length xs) c.self.view_is in
    omega (arith, short, seen, slots.ok.0, slots.ok.1, slots.small)
