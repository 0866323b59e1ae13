use Rattle.drf_master.proofs.Paths.{paths_same}
use Rattle.drf_master.proofs.same.NodePathSame.same.Goals as goal

pub returns : goal.returns
returns c = paths_same c.eq.result c.args.self.now c.args.other.now c.eq.ensures
