use Rattle.std.proofs.Common.{arith}
use Rattle.drf_role.proofs.PathLemmas.{node_few}
use Rattle.drf_role.proofs.path.NodePath.len.Goals as goal

pub returns-clause-few : goal.returns-clause-few
returns-clause-few c = omega (arith, node_few c.self.inside.joined c.self.invariant, c.len.ensures)
