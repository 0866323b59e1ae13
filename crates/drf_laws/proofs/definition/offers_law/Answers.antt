use Rattle.drf_laws.proofs.OfferedLaws.{suppressed_is_not_offered, filtered_is_not_offered, numbers_are_new}
use Rattle.drf_laws.proofs.definition.offers_law.Goals as goal

pub returns-clause-suppressed : goal.returns-clause-suppressed
returns-clause-suppressed c = suppressed_is_not_offered

pub returns-clause-filtered : goal.returns-clause-filtered
returns-clause-filtered c = filtered_is_not_offered

pub returns-clause-numbers : goal.returns-clause-numbers
returns-clause-numbers c = numbers_are_new
