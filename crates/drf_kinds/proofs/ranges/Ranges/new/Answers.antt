use Rattle.drf_kinds.proofs.Members.{IsNumberSet-members}
use Rattle.drf_kinds.proofs.ranges.Ranges.new.Goals as goal

pub invariant_of-result : goal.invariant_of-result
invariant_of-result c = record { maximal = c.requires; given = IsNumberSet-members c.args.intervals.items c.requires }
