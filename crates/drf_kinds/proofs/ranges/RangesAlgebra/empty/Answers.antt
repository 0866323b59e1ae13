use Rattle.std.proofs.Common.{ap, ◌∙◌}
use Rattle.drf_kinds.specs.Intervals.{members}
use Rattle.drf_kinds.proofs.Members.{members_of-nil}
use Rattle.drf_kinds.proofs.ranges.RangesAlgebra.empty.Goals as goal

pub returns : goal.returns
returns c = c.new-2.ensures ∙ ap members c.new.ensures.items ∙ members_of-nil
