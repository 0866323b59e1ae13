use Rattle.std.proofs.Common.{sym, subst}
use Rattle.drf_role.specs.Path.{IsNodePath}
use Rattle.drf_role.proofs.PathLemmas.{node_from_path}
use Rattle.drf_role.proofs.path.ClientPath.node.Goals as goal

pub invariant_of-result : goal.invariant_of-result
invariant_of-result c =
    subst IsNodePath (sym c.in_ok-prefix.ensures.parts) (node_from_path c.args.self.now c.args.len c.in_ok-prefix.ensures.right c.requires.some c.requires.within)
