use Rattle.drf_gates.proofs.quota.Total.{lowered_beside}
use Rattle.drf_gates.proofs.quota.consumption.Consumption.release.Goals as goal

pub invariant_of-self : goal.invariant_of-self
invariant_of-self c =
    lowered_beside c.self.inside.used.entries c.lower.new.used.entries c.args.role.now c.args.amounts.now c.self.inside.totals.entries c.lower_totals.new.totals.entries
    c.self.invariant c.lower.ensures.some c.lower.ensures.lowered c.lower_totals.ensures
