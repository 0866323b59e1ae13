use Rattle.drf_core.specs.Machine.{live}
use Rattle.drf_journal.proofs.session.Session.begin.Goals as goal

pub returns : goal.returns
returns g c =
    λ i. record { machine = live c.args.core; echo = c.args.echo; pending = c.new.ensures i; unsent = c.new-2.ensures.items i; lines = 0 }
