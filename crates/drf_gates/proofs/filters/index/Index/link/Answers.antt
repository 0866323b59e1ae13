use Rattle.drf_gates.proofs.filters.Held.{before-at, hash-at}
use Rattle.drf_gates.proofs.filters.index.Index.link.Goals as goal

pub returns-clause-before : goal.returns-clause-before
returns-clause-before c = before-at c.args.self.now c.args.place c.index.result.now c.requires c.index.ensures

pub returns-clause-hash : goal.returns-clause-hash
returns-clause-hash c = hash-at c.args.self.now c.args.place c.index.result.now c.requires c.index.ensures
