use Rattle.std.proofs.Common.{length}
use Rattle.drf_why.specs.Written.{output_of}
use Rattle.drf_why.proofs.Lists.{IsWrittenTo, reported_in}
use Rattle.drf_why.proofs.explanations.write_agents.Given as goal

abbrev pub invariant-loop-findings : goal.invariant-loop-findings
invariant-loop-findings g l =
    IsWrittenTo l.pick (reported_in l.fn.explanations) (reported_in l.explanations) (output_of g.W.Write.contents l.fn.writer) (output_of g.W.Write.contents l.writer)

abbrev pub decreases-loop-findings : goal.decreases-loop-findings
decreases-loop-findings g l = length l.explanations
