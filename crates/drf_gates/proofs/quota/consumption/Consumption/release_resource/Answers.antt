use Rattle.std.proofs.Common.{◌≡◌, List, false, sym, ap, ◌∙◌, cond, arith}
use Rattle.drf_role.specs.Path.{same_path}
use Rattle.drf_role.specs.PathLaws.{same_path_itself}
use Rattle.drf_bundle.specs.Bundle.{is_default}
use Rattle.drf_gates.specs.quota.Allowance.{Usage, amount_in_one, one_entry, used_by}
use Rattle.drf_gates.proofs.quota.Resources.{one_here, reserved-here}
use Rattle.drf_gates.proofs.quota.Total.{lowered_beside}
use Rattle.drf_gates.proofs.quota.consumption.Consumption.release_resource.Goals as goal

pub reduce-requires : goal.reduce-requires
reduce-requires c =
    let r = c.args.resource.now in
    let old : List Usage = c.self.inside.used.entries in
    let other : is_default r.role ≡ false = sym c.is_unreserved.ensures ∙ c.if-not-is_unreserved.true in
    omega (
      arith,
      c.requires.fits r.role r.label,
      reserved-here r r.label c.requires.right other (same_path r.role),
      ap (λ b. cond b (amount_in_one r.label r) 0) (same_path_itself r.role),
      one_here r,
      c.thousandths-amount.ensures,
      ap (λ (us : List Usage). used_by us r.role r.label) c.self.view_is,
    )

pub invariant_of-self : goal.invariant_of-self
invariant_of-self c =
    lowered_beside c.self.inside.used.entries c.reduce.new.used.entries c.args.resource.now.role
    (one_entry c.args.resource.now.label c.thousandths-amount.result) c.self.inside.totals.entries c.reduce_totals.new.totals.entries
    c.self.invariant c.reduce.ensures.some c.reduce.ensures.lowered c.reduce_totals.ensures
