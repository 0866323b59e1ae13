use Rattle.drf_promises.proofs.theorems.Cycles.{cycles_leave_nothing, second_cycles_are_idle}
use Rattle.drf_promises.proofs.theorems.Open.{all_is_handed_out}
use Rattle.drf_promises.proofs.laws.leaves_nothing_law.Goals as goal

pub returns-clause-nothing : goal.returns-clause-nothing
returns-clause-nothing c = cycles_leave_nothing

pub returns-clause-idle : goal.returns-clause-idle
returns-clause-idle c = second_cycles_are_idle

pub returns-clause-all : goal.returns-clause-all
returns-clause-all c = all_is_handed_out
