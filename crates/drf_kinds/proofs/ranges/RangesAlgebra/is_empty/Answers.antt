use Rattle.drf_kinds.proofs.Members.{empty_answer}
use Rattle.drf_kinds.proofs.ranges.RangesAlgebra.is_empty.Goals as goal

pub returns-clause-is_empty : goal.returns-clause-is_empty
returns-clause-is_empty c =
    empty_answer c.self.inside.intervals.items _ c.is_empty.result c.self.invariant.maximal c.self.view_is c.is_empty.ensures
