use Rattle.drf_master.proofs.Runs.{begins-opened}
use Rattle.drf_master.proofs.book.Book.open.Goals as goal

pub open_from-requires : goal.open_from-requires
open_from-requires g c = record { start = begins-opened c.args.limits g.K.Naming.start c.in_ok-core.core c.requires.start c.in_ok-core.ensures }
