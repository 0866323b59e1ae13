use Rattle.drf_saved_laws.proofs.theorems.Epochs.{epoch_can_be_saved, epoch_keeps_the_rest}
use Rattle.drf_saved_laws.proofs.laws.epoch_law.Goals as goal

pub returns-clause-saveable : goal.returns-clause-saveable
returns-clause-saveable c = epoch_can_be_saved

pub returns-clause-rest : goal.returns-clause-rest
returns-clause-rest c = epoch_keeps_the_rest
