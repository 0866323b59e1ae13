use Rattle.drf_laws.proofs.KeptLimitLaws.{runs_keep_limits}
use Rattle.drf_laws.proofs.limits.limited_runs_law.Goals as goal

pub returns : goal.returns
returns c = runs_keep_limits
