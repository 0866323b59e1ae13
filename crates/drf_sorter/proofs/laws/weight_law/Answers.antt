use Rattle.drf_sorter.proofs.WeighingLemmas.{heavier_has_less, clients_have_default_weight}
use Rattle.drf_sorter.proofs.laws.weight_law.Goals as goal

pub returns-clause-heavier : goal.returns-clause-heavier
returns-clause-heavier c = heavier_has_less

pub returns-clause-roles_alone : goal.returns-clause-roles_alone
returns-clause-roles_alone c = clients_have_default_weight
