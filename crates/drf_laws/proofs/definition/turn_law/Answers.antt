use Rattle.drf_row_laws.proofs.CycleLaws.{all_tried_none, all_tried_first}
use Rattle.drf_laws.proofs.definition.turn_law.Goals as goal

pub returns-clause-little : goal.returns-clause-little
returns-clause-little c = all_tried_none

pub returns-clause-enough : goal.returns-clause-enough
returns-clause-enough c = all_tried_first
