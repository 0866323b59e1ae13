use Rattle.drf_promises.proofs.theorems.Stands.{offers_stand, tasks_stand}
use Rattle.drf_promises.proofs.laws.offers_stay_law.Goals as goal

pub returns-clause-offers : goal.returns-clause-offers
returns-clause-offers c = offers_stand

pub returns-clause-tasks : goal.returns-clause-tasks
returns-clause-tasks c = tasks_stand
