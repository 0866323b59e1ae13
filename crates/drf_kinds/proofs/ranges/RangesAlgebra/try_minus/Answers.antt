use Rattle.std.proofs.Common.{◌<◌, ◌^◌}
use Rattle.std.specs.Cmp.{nat_cmp_total}
use Rattle.std.specs.FinSet as set
use Rattle.drf_kinds.proofs.Answered.{rest_answer}
use Rattle.drf_kinds.proofs.ranges.RangesAlgebra.try_minus.Goals as goal

pub returns-clause-rest : goal.returns-clause-rest
returns-clause-rest c =
    rest_answer nat_cmp_total set.nat_cmp-IsAntisymmetric (λ n. n < 2 ^ 32) _ _ _ c.covers.ensures.given.0 (c.covers.ensures.covers.0 c.if-not-covers.false) c.in_ok-difference.ensures
