use Rattle.drf_saved_laws.proofs.theorems.Saveable.{head_is_saveable, row_keeps_saveable}
use Rattle.drf_saved_laws.proofs.laws.row_law.Goals as goal

pub returns-clause-head : goal.returns-clause-head
returns-clause-head c = head_is_saveable

pub returns-clause-row : goal.returns-clause-row
returns-clause-row c = row_keeps_saveable
