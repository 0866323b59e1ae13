use Rattle.drf_laws.proofs.theorems.Turns.{turn_order-registered, length-turn_order, grant-part, cycles_make_few_offers, free_of-all_tried_other}
use Rattle.drf_laws.proofs.laws.turns_law.Goals as goal

pub returns-clause-registered : goal.returns-clause-registered
returns-clause-registered c = turn_order-registered

pub returns-clause-few : goal.returns-clause-few
returns-clause-few c = length-turn_order

pub returns-clause-parts : goal.returns-clause-parts
returns-clause-parts c = grant-part

pub returns-clause-offers : goal.returns-clause-offers
returns-clause-offers c = cycles_make_few_offers

pub returns-clause-others : goal.returns-clause-others
returns-clause-others c = free_of-all_tried_other
