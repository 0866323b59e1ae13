use Rattle.drf_promises.proofs.theorems.PassRuns.{passes_are_few}
use Rattle.drf_promises.proofs.laws.passes_are_few_law.Goals as goal

pub returns : goal.returns
returns c = passes_are_few
