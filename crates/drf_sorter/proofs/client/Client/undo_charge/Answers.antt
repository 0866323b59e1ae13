use Rattle.drf_bundle.proofs.theorems.QuantitiesLaws.{covers_from}
use Rattle.drf_sorter.proofs.ChangeLemmas.{discharged_is}
use Rattle.drf_sorter.proofs.client.Client.undo_charge.Goals as goal

pub lower-requires : goal.lower-requires
lower-requires c = covers_from c.args.self.now.held c.args.quantities.now c.recall.ensures c.requires.held

pub overflow_sub-self : goal.overflow_sub-self
overflow_sub-self c = c.requires.count

pub returns-clause-client : goal.returns-clause-client
returns-clause-client c = discharged_is c.args.self.now c.args.quantities.now c.lower.new.self c.lower.ensures
