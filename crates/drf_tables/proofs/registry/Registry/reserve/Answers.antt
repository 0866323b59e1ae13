use Rattle.std.proofs.Common.{arith}
use Rattle.drf_tables.proofs.registry.Slots.{ok_then}
use Rattle.drf_tables.proofs.registry.Registry.reserve.Goals as goal

pub returns-clause-ok : goal.returns-clause-ok
returns-clause-ok g c =
    let slots = c.reserve.new.self in
    let ok = c.in_ok-reserve.ensures.ok in
    let small = slots.ok.0 in
    ok_then c.reserve-2.result c.reserve-2.ensures.ok (λ more. omega (arith, ok, small, more))
