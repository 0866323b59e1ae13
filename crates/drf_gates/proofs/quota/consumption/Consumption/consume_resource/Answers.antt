use Rattle.std.proofs.Common.{sym, ap, ◌∙◌, cond, arith}
use Rattle.drf_rows.specs.Quota.{is_within}
use Rattle.drf_gates.specs.quota.Allowance.{amount_in_one}
use Rattle.drf_gates.proofs.quota.Resources.{raised_by, reserved-here}
use Rattle.drf_gates.proofs.quota.consumption.Consumption.consume_resource.Goals as goal

pub returns-clause-ok : goal.returns-clause-ok
returns-clause-ok c =
    let r = c.args.resource.now in
    raised_by c.consume.result c.args.self.now c.consume.new.self r.role c.in_ok-amounts.amounts _ c.consume.ensures.ok
    (λ test label. ap (λ n. cond (test r.role) n 0) (c.in_ok-amounts.ensures label)
    ∙ sym (reserved-here r label c.requires.right (sym c.is_unreserved.ensures ∙ c.if-is_unreserved.false) test))

pub consume-requires : goal.consume-requires
consume-requires c = λ outer label right within.
    let r = c.args.resource.now in
    omega (
      arith,
      c.requires.fits (is_within outer) label,
      reserved-here r label c.requires.right (sym c.is_unreserved.ensures ∙ c.if-is_unreserved.false) (is_within outer),
      ap (λ b. cond b (amount_in_one label r) 0) within,
      c.in_ok-amounts.ensures label,
    )
