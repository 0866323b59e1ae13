use Rattle.drf_laws.proofs.theorems.Runs.{runs_from_opening_keep_limits, consistent_runs_keep_limits}
use Rattle.drf_laws.proofs.laws.kept_limits_law.Goals as goal

pub returns-clause-start : goal.returns-clause-start
returns-clause-start c = runs_from_opening_keep_limits

pub returns-clause-consistent : goal.returns-clause-consistent
returns-clause-consistent c = consistent_runs_keep_limits
