use Rattle.drf_row_laws.proofs.WeightLaws.{role_has_its_weight, others_keep_their_weight, each_has_one_row, no_role_has_two_rows}
use Rattle.drf_laws.proofs.definition.set_weight_law.Goals as goal

pub returns-clause-set : goal.returns-clause-set
returns-clause-set c = role_has_its_weight

pub returns-clause-others : goal.returns-clause-others
returns-clause-others c = others_keep_their_weight

pub returns-clause-one_row : goal.returns-clause-one_row
returns-clause-one_row c = each_has_one_row

pub returns-clause-run : goal.returns-clause-run
returns-clause-run c = no_role_has_two_rows
