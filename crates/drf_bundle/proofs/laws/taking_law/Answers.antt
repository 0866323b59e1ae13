use Rattle.drf_bundle.proofs.theorems.TakenLaws.{joined-rest_of_all, only_rest_of_all}
use Rattle.drf_bundle.proofs.laws.taking_law.Goals as goal

pub returns-clause-joins : goal.returns-clause-joins
returns-clause-joins c = joined-rest_of_all

pub returns-clause-only : goal.returns-clause-only
returns-clause-only c = only_rest_of_all
