use Rattle.drf_laws.proofs.theorems.SetFilters.{declined_sets_filter, accepted_sets_filter, some_rest_is_left, declined_is_held_back, left_is_held_back}
use Rattle.drf_laws.proofs.laws.set_filters_law.Goals as goal

pub returns-clause-declined : goal.returns-clause-declined
returns-clause-declined c = declined_sets_filter

pub returns-clause-accepted : goal.returns-clause-accepted
returns-clause-accepted c = accepted_sets_filter

pub returns-clause-held_back : goal.returns-clause-held_back
returns-clause-held_back c = declined_is_held_back

pub returns-clause-left : goal.returns-clause-left
returns-clause-left c = left_is_held_back

pub returns-clause-rest : goal.returns-clause-rest
returns-clause-rest c = some_rest_is_left
