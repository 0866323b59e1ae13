use Rattle.drf_saved_laws.proofs.theorems.Runs.{runs_can_be_saved, runs_go_on_from_saved, saveable_rows_stay_so, saved_rows_go_on}
use Rattle.drf_saved_laws.proofs.laws.saved_runs_law.Goals as goal

pub returns-clause-runs : goal.returns-clause-runs
returns-clause-runs c = runs_can_be_saved

pub returns-clause-stay : goal.returns-clause-stay
returns-clause-stay c = saveable_rows_stay_so

pub returns-clause-go_on : goal.returns-clause-go_on
returns-clause-go_on c = runs_go_on_from_saved

pub returns-clause-again : goal.returns-clause-again
returns-clause-again c = saved_rows_go_on
