use Rattle.drf_kinds.proofs.Members.{contains-view}
use Rattle.drf_kinds.proofs.ranges.Ranges.intervals.Goals as goal

pub returns-clause-members : goal.returns-clause-members
returns-clause-members c = contains-view _ _ _ c.as_slice.ensures c.self.view_is
