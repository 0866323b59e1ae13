use Rattle.std.proofs.Common.{arith}
use Rattle.drf_role.specs.Path.{same_path}
use Rattle.drf_gates.proofs.quota.Carry.{exact_dropped}
use Rattle.drf_gates.proofs.quota.totals.drop_total.Goals as goal

pub returns : goal.returns
returns c = λ used.
    exact_dropped used (same_path c.args.role.now) c.args.totals.now.entries c.swap_remove.new.self.entries c.swap_remove.ensures.entries
    (omega (arith, c.swap_remove.ensures.len))
