use Rattle.drf_row_laws.proofs.LowestLaws.{lowest-unique, lowest_terms-is, lowest_terms-same, lowest_terms-nothing}
use Rattle.drf_sorter.proofs.laws.lowest_terms_law.Goals as goal

pub returns-clause-found : goal.returns-clause-found
returns-clause-found c = lowest_terms-is

pub returns-clause-one : goal.returns-clause-one
returns-clause-one c = lowest-unique

pub returns-clause-same : goal.returns-clause-same
returns-clause-same c = lowest_terms-same

pub returns-clause-nothing : goal.returns-clause-nothing
returns-clause-nothing c = lowest_terms-nothing
