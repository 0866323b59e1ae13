use Rattle.drf_cases.proofs.Standing.{full_refuses_all}
use Rattle.drf_cases.proofs.cases.full_cases.Goals as goal

pub returns-clause-all : goal.returns-clause-all
returns-clause-all c = full_refuses_all
