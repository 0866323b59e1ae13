use Rattle.drf_promises.proofs.theorems.Stands.{reserved_is_its_roles}
use Rattle.drf_promises.proofs.laws.reserved_law.Goals as goal

pub returns : goal.returns
returns c = reserved_is_its_roles
