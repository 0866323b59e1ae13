use Rattle.std.proofs.Common.{arith}
use Rattle.drf_core.proofs.cycle.explain.count_active.Goals as goal

pub returns-clause-count : goal.returns-clause-count
returns-clause-count g c =
    (c.in_ok-order.order.items, c.in_ok-order.ensures.order, omega (arith, c.len.ensures, c.in_ok-order.order.ok.0))
