use Rattle.drf_row_laws.proofs.ServingOrder.{stands_before_itself, stands_before-back, serving_order-unique}
use Rattle.drf_laws.proofs.definition.serving_order_law.Goals as goal

pub returns-clause-irreflexive : goal.returns-clause-irreflexive
returns-clause-irreflexive c = stands_before_itself

pub returns-clause-asymmetric : goal.returns-clause-asymmetric
returns-clause-asymmetric c = stands_before-back

pub returns-clause-unique : goal.returns-clause-unique
returns-clause-unique c = serving_order-unique
