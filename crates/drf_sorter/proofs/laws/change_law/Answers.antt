use Rattle.drf_sorter.proofs.EffectLemmas.{charge_taken_back, suppression_keeps}
use Rattle.drf_sorter.proofs.laws.change_law.Goals as goal

pub returns-clause-undone : goal.returns-clause-undone
returns-clause-undone c = charge_taken_back

pub returns-clause-suppressed : goal.returns-clause-suppressed
returns-clause-suppressed c = suppression_keeps
