use Rattle.drf_promises.proofs.theorems.Cycles.{nothing_is_explained}
use Rattle.drf_promises.proofs.laws.explained_law.Goals as goal

pub returns : goal.returns
returns c = nothing_is_explained
