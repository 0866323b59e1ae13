use Rattle.drf_promises.proofs.theorems.Everybody.{everybody_is_offered}
use Rattle.drf_promises.proofs.laws.everybody_is_offered_law.Goals as goal

pub returns : goal.returns
returns c = everybody_is_offered
