use Rattle.drf_cases.proofs.Standing.{clock_stands, filters_stand, limits_stand, number_stands, weights_stand}
use Rattle.drf_cases.proofs.cases.untouched_law.Goals as goal

pub returns-clause-weights : goal.returns-clause-weights
returns-clause-weights c = weights_stand

pub returns-clause-limits : goal.returns-clause-limits
returns-clause-limits c = limits_stand

pub returns-clause-filters : goal.returns-clause-filters
returns-clause-filters c = filters_stand

pub returns-clause-clock : goal.returns-clause-clock
returns-clause-clock c = clock_stands

pub returns-clause-number : goal.returns-clause-number
returns-clause-number c = number_stands
