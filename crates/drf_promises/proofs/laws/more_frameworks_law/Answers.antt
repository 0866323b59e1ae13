use Rattle.drf_promises.proofs.theorems.FrameworkRuns.{each_stands_as_itself, more_frameworks_gain_nothing, one_more_stands_alike}
use Rattle.drf_promises.proofs.laws.more_frameworks_law.Goals as goal

pub returns-clause-itself : goal.returns-clause-itself
returns-clause-itself c = each_stands_as_itself

pub returns-clause-more : goal.returns-clause-more
returns-clause-more c = one_more_stands_alike

pub returns-clause-runs : goal.returns-clause-runs
returns-clause-runs c = more_frameworks_gain_nothing
