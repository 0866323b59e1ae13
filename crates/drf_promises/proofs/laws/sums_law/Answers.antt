use Rattle.drf_promises.proofs.theorems.Siblings.{sums_decide}
use Rattle.drf_promises.proofs.laws.sums_law.Goals as goal

pub returns : goal.returns
returns c = sums_decide
