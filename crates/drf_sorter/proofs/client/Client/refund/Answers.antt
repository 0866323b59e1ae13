use Rattle.drf_bundle.proofs.theorems.QuantitiesLaws.{covers_from}
use Rattle.drf_sorter.proofs.ChangeLemmas.{refunded_is}
use Rattle.drf_sorter.proofs.client.Client.refund.Goals as goal

pub lower-requires : goal.lower-requires
lower-requires c = covers_from c.args.self.now.held c.args.quantities.now c.recall.ensures c.requires

pub returns-clause-client : goal.returns-clause-client
returns-clause-client c = refunded_is c.args.self.now c.args.quantities.now c.lower.new.self c.lower.ensures
