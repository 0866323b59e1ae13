use Rattle.drf_content.proofs.theorems.RolesSet.{roles_are_followed}
use Rattle.drf_content.proofs.laws.roles_law.Goals as goal

pub returns : goal.returns
returns c = roles_are_followed
