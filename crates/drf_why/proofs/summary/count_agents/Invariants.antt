use Rattle.std.proofs.Common.{length}
use Rattle.drf_why.proofs.Lists.{AreCountedTo}
use Rattle.drf_why.proofs.summary.count_agents.Given as goal

abbrev pub invariant-loop-turn : goal.invariant-loop-turn
invariant-loop-turn l = AreCountedTo l.fn.explanations l.explanations l.fn.tallies l.tallies

abbrev pub decreases-loop-turn : goal.decreases-loop-turn
decreases-loop-turn l = length l.explanations
