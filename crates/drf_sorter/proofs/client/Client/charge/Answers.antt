use Rattle.drf_sorter.proofs.ChangeLemmas.{charged_is}
use Rattle.drf_sorter.proofs.client.Client.charge.Goals as goal

pub returns-clause-ok : goal.returns-clause-ok
returns-clause-ok c = charged_is c.args.self.now c.args.quantities.now c.args.offers c.raise.new.held c.in_ok-raise.ensures.ok
