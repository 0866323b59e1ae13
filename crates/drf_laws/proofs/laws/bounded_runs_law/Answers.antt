use Rattle.drf_laws.proofs.theorems.Within.{runs_stay_within_limits}
use Rattle.drf_laws.proofs.laws.bounded_runs_law.Goals as goal

pub returns : goal.returns
returns c = runs_stay_within_limits
