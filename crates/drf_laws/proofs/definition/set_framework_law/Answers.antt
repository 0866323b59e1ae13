use Rattle.drf_laws.proofs.theorems.RolesSet.{listed_roles_are_set, other_clients_stay_registered, same_roles_change_nothing, taken_again_is_new}
use Rattle.drf_laws.proofs.definition.set_framework_law.Goals as goal

pub returns-clause-listed : goal.returns-clause-listed
returns-clause-listed c = listed_roles_are_set

pub returns-clause-others : goal.returns-clause-others
returns-clause-others c = other_clients_stay_registered

pub returns-clause-same : goal.returns-clause-same
returns-clause-same c = same_roles_change_nothing

pub returns-clause-again : goal.returns-clause-again
returns-clause-again c = taken_again_is_new
