use Rattle.drf_promises.proofs.theorems.Apart.{nothing_held_is_apart}
use Rattle.drf_promises.proofs.theorems.ApartRuns.{runs_stay_apart}
use Rattle.drf_promises.proofs.laws.one_agent_apart_law.Goals as goal

pub returns-clause-start : goal.returns-clause-start
returns-clause-start c = nothing_held_is_apart

pub returns-clause-runs : goal.returns-clause-runs
returns-clause-runs c = runs_stay_apart
