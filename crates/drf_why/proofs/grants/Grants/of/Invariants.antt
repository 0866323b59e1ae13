use Rattle.drf_why.proofs.PassersFound.{AreGrantsTo}
use Rattle.drf_why.proofs.grants.Grants.of.Given as goal

abbrev pub invariant-loop-finding : goal.invariant-loop-finding
invariant-loop-finding l = AreGrantsTo l.findings l.finding-index l.grants
