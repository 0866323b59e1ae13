use Rattle.std.proofs.Common.{◌<◌, ◌^◌}
use Rattle.std.specs.Cmp.{nat_cmp_total}
use Rattle.std.specs.FinSet as set
use Rattle.drf_kinds.proofs.Answered.{joined_answer}
use Rattle.drf_kinds.proofs.ranges.RangesAlgebra.try_join.Goals as goal

pub returns-clause-joined : goal.returns-clause-joined
returns-clause-joined c =
    joined_answer nat_cmp_total set.nat_cmp-IsAntisymmetric (λ n. n < 2 ^ 32) _ _ _ (c.disjoint.ensures.disjoint.0 c.if-not-disjoint.false) c.in_ok-unite.ensures
