use Rattle.drf_row_laws.proofs.ServingOrder.{stands_before-back}
use Rattle.drf_sorter.proofs.theorems.OrderLaws.{stands_before-total, stands_before-transitive}
use Rattle.drf_sorter.proofs.laws.client_order_law.Goals as goal

pub returns-clause-asymmetric : goal.returns-clause-asymmetric
returns-clause-asymmetric c = stands_before-back

pub returns-clause-total : goal.returns-clause-total
returns-clause-total c = stands_before-total

pub returns-clause-transitive : goal.returns-clause-transitive
returns-clause-transitive c = stands_before-transitive
