use Rattle.drf_why.proofs.Passing.{each_is_passed_rightly}
use Rattle.drf_why.proofs.Sums.{counts_add_up, each_has_its_passers}
use Rattle.drf_why.proofs.laws.summary_law.Goals as goal

pub returns-clause-counts : goal.returns-clause-counts
returns-clause-counts c = counts_add_up

pub returns-clause-passers : goal.returns-clause-passers
returns-clause-passers c = each_has_its_passers

pub returns-clause-rightly : goal.returns-clause-rightly
returns-clause-rightly c = each_is_passed_rightly c.reasons_law.ensures.granted
