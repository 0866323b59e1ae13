use Rattle.std.proofs.Common.{◌<◌, ◌^◌}
use Rattle.std.specs.Cmp.{nat_cmp_total}
use Rattle.std.specs.FinSet as set
use Rattle.drf_kinds.proofs.Answered.{disjoint_answer}
use Rattle.drf_kinds.proofs.Members.{contains-view}
use Rattle.drf_kinds.proofs.ranges.RangesAlgebra.disjoint.Goals as goal

pub returns-clause-disjoint : goal.returns-clause-disjoint
returns-clause-disjoint c =
    disjoint_answer nat_cmp_total set.nat_cmp-IsAntisymmetric (λ n. n < 2 ^ 32) _ _ _ _ c.meets.result
    (contains-view _ _ _ c.deref.ensures c.self.view_is) (contains-view _ _ _ c.deref-2.ensures c.other.view_is)
    c.meets.ensures.found c.meets.ensures.none
