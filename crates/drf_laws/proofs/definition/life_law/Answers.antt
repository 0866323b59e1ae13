use Rattle.drf_laws.proofs.EndedLaws.{accepted_starts_tasks, declined_at_once, finished_is_given_back, filters_go, other_filters_stay}
use Rattle.drf_laws.proofs.definition.life_law.Goals as goal

pub returns-clause-accepted : goal.returns-clause-accepted
returns-clause-accepted c = accepted_starts_tasks

pub returns-clause-declined : goal.returns-clause-declined
returns-clause-declined c = declined_at_once

pub returns-clause-finished : goal.returns-clause-finished
returns-clause-finished c = finished_is_given_back

pub returns-clause-filters : goal.returns-clause-filters
returns-clause-filters c = filters_go

pub returns-clause-others : goal.returns-clause-others
returns-clause-others c = other_filters_stay
