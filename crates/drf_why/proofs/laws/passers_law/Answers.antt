use Rattle.drf_why.proofs.Passing.{each_is_passed_by_somebody, each_passer_passes}
use Rattle.drf_why.proofs.laws.passers_law.Goals as goal

pub returns-clause-each : goal.returns-clause-each
returns-clause-each c = each_passer_passes c.reasons_law.ensures.granted

pub returns-clause-some : goal.returns-clause-some
returns-clause-some c = each_is_passed_by_somebody c.reasons_law.ensures.granted
