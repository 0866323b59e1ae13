use Rattle.drf_saved_laws.proofs.theorems.Listed.{restored_is_listed}
use Rattle.drf_saved_laws.proofs.theorems.Runs.{live_rows_are_saved}
use Rattle.drf_saved_laws.proofs.theorems.Saveable.{restored_can_be_saved}
use Rattle.drf_saved_laws.proofs.theorems.Taken.{saved_is_restored}
use Rattle.drf_saved_laws.proofs.laws.saved_law.Goals as goal

pub returns-clause-saveable : goal.returns-clause-saveable
returns-clause-saveable c = restored_can_be_saved

pub returns-clause-listed : goal.returns-clause-listed
returns-clause-listed c = restored_is_listed

pub returns-clause-again : goal.returns-clause-again
returns-clause-again c = saved_is_restored

pub returns-clause-live : goal.returns-clause-live
returns-clause-live c = live_rows_are_saved
