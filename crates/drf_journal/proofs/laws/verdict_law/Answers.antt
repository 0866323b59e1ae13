use Rattle.drf_journal.proofs.Verdicts.{one-verdict}
use Rattle.drf_journal.proofs.laws.verdict_law.Goals as goal

pub returns : goal.returns
returns c = one-verdict
