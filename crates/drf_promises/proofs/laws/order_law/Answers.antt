use Rattle.drf_promises.proofs.theorems.Cycles.{nobody_is_passed}
use Rattle.drf_promises.proofs.theorems.Order.{offers_go_to_the_first}
use Rattle.drf_promises.proofs.laws.order_law.Goals as goal

pub returns-clause-passed : goal.returns-clause-passed
returns-clause-passed c = nobody_is_passed

pub returns-clause-first : goal.returns-clause-first
returns-clause-first c = offers_go_to_the_first
