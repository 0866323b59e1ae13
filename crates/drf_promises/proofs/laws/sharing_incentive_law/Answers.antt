use Rattle.drf_promises.proofs.theorems.Equal.{equal_agents_are_shared}
use Rattle.drf_promises.proofs.theorems.Incentive.{sharing_incentive}
use Rattle.drf_promises.proofs.theorems.Shared.{fair_shares}
use Rattle.drf_promises.proofs.laws.sharing_incentive_law.Goals as goal

pub returns-clause-part : goal.returns-clause-part
returns-clause-part c = sharing_incentive

pub returns-clause-cycle : goal.returns-clause-cycle
returns-clause-cycle c = fair_shares

pub returns-clause-equal : goal.returns-clause-equal
returns-clause-equal c = equal_agents_are_shared
