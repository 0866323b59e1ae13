use Rattle.drf_sorter.proofs.SiblingLemmas.{lesser_name_first}
use Rattle.drf_sorter.proofs.laws.sibling_law.Goals as goal

pub returns : goal.returns
returns c = lesser_name_first
