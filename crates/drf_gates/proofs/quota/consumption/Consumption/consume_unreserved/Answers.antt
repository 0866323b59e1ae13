use Rattle.std.proofs.Common.{Bool, ap, cond, arith}
use Rattle.drf_rows.specs.Quota.{is_within, unreserved_in}
use Rattle.drf_gates.proofs.quota.consumption.Consumption.consume_unreserved.Goals as goal

pub consume-requires : goal.consume-requires
consume-requires c = λ outer label right within.
    omega (
      arith,
      c.requires (is_within outer) label,
      ap (λ (b : Bool). cond b (unreserved_in label c.args.bundle.now) 0) within,
      c.in-Some.ensures label,
    )

pub consume-requires-2 : goal.consume-requires-2
consume-requires-2 c = λ outer label right within.
    omega (
      arith,
      c.requires (is_within outer) label,
      ap (λ (b : Bool). cond b (unreserved_in label c.args.bundle.now) 0) within,
      c.in_ok-amounts.ensures label,
    )
