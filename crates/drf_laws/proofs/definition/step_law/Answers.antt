use Rattle.drf_row_laws.proofs.StepLaws.{cases_rise, least_is_reported, reply_to-refused, rows_after-refused, reply_to-accepted, rows_after-accepted}
use Rattle.drf_row_laws.proofs.RunLaws.{replies_to-append, rows_after_all-append}
use Rattle.drf_laws.proofs.definition.step_law.Goals as goal

pub returns-clause-rising : goal.returns-clause-rising
returns-clause-rising c = cases_rise

pub returns-clause-least : goal.returns-clause-least
returns-clause-least c = least_is_reported

pub returns-clause-refused : goal.returns-clause-refused
returns-clause-refused c = λ limits rows event refusal case.
    (reply_to-refused limits rows event refusal case, rows_after-refused limits rows event refusal case)

pub returns-clause-accepted : goal.returns-clause-accepted
returns-clause-accepted c = λ limits rows event case.
    (reply_to-accepted limits rows event case, rows_after-accepted limits rows event case)

pub returns-clause-runs : goal.returns-clause-runs
returns-clause-runs c = λ limits rows first second.
    (replies_to-append limits rows first second, rows_after_all-append limits rows first second)
