use Rattle.std.proofs.Common.{◌≡◌, List, true, sym, ap, ◌∙◌, arith}
use Rattle.drf_bundle.specs.Bundle.{is_default}
use Rattle.drf_gates.specs.quota.Allowance.{Usage, one_entry, used_by}
use Rattle.drf_gates.proofs.quota.Resources.{one_here, unreserved-here}
use Rattle.drf_gates.proofs.quota.Total.{lowered_beside}
use Rattle.drf_gates.proofs.quota.consumption.Consumption.release_one.Goals as goal

pub reduce-requires : goal.reduce-requires
reduce-requires c =
    let r = c.args.resource.now in
    let role = c.args.role.now in
    let old : List Usage = c.self.inside.used.entries in
    let default : is_default r.role ≡ true = sym c.is_unreserved.ensures ∙ c.if-is_unreserved.true in
    omega (
      arith,
      c.requires.fits r.label,
      unreserved-here r r.label default,
      one_here r,
      c.thousandths-amount.ensures,
      ap (λ (us : List Usage). used_by us role r.label) c.self.view_is,
    )

pub invariant_of-self : goal.invariant_of-self
invariant_of-self c =
    lowered_beside c.self.inside.used.entries c.reduce.new.used.entries c.args.role.now
    (one_entry c.args.resource.now.label c.thousandths-amount.result) c.self.inside.totals.entries c.reduce_totals.new.totals.entries
    c.self.invariant c.reduce.ensures.some c.reduce.ensures.lowered c.reduce_totals.ensures
