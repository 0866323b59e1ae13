use Rattle.std.proofs.Common.{◌<◌, ◌^◌, subst}
use Rattle.std.specs.Cmp.{nat_cmp_total}
use Rattle.std.specs.FinSet as set
use Rattle.drf_kinds.specs.Intervals.{IsNumberSet}
use Rattle.drf_kinds.proofs.Answered.{covers_answer}
use Rattle.drf_kinds.proofs.Members.{contains-view}
use Rattle.drf_kinds.proofs.ranges.RangesAlgebra.covers.Goals as goal

pub returns-clause-covers : goal.returns-clause-covers
returns-clause-covers c =
    covers_answer nat_cmp_total set.nat_cmp-IsAntisymmetric (λ n. n < 2 ^ 32) _ _ _ _ c.meets.result
    (contains-view _ _ _ c.deref.ensures c.part.view_is) (contains-view _ _ _ c.deref-2.ensures c.self.view_is) (subst IsNumberSet c.self.view_is c.self.invariant.given)
    c.meets.ensures.found c.meets.ensures.none
