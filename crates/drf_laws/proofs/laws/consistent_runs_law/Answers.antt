use Rattle.drf_laws.proofs.theorems.Runs.{steps_stay_consistent, runs_stay_consistent, all_rows_stay_consistent, runs_from_opening_are_consistent, nothing_is_granted_twice}
use Rattle.drf_laws.proofs.laws.consistent_runs_law.Goals as goal

pub returns-clause-step : goal.returns-clause-step
returns-clause-step c = steps_stay_consistent

pub returns-clause-run : goal.returns-clause-run
returns-clause-run c = runs_stay_consistent

pub returns-clause-rows : goal.returns-clause-rows
returns-clause-rows c = all_rows_stay_consistent

pub returns-clause-opening : goal.returns-clause-opening
returns-clause-opening c = runs_from_opening_are_consistent

pub returns-clause-start : goal.returns-clause-start
returns-clause-start c = nothing_is_granted_twice
