use Rattle.drf_rows.specs.Holdings.{holdings_of}
use Rattle.drf_laws.proofs.theorems.Clients.{path_of-injective, nothing_held}
use Rattle.drf_laws.proofs.theorems.Nodes.{same_in_order}
use Rattle.drf_laws.proofs.theorems.Tests.{below_held}
use Rattle.drf_laws.proofs.laws.known_law.Goals as goal

pub returns-clause-clients : goal.returns-clause-clients
returns-clause-clients c = path_of-injective

pub returns-clause-nodes : goal.returns-clause-nodes
returns-clause-nodes c = same_in_order

pub returns-clause-strangers : goal.returns-clause-strangers
returns-clause-strangers c = λ rows client label consistent new.
    nothing_held rows.agents rows.frameworks client new (holdings_of rows) label consistent.holdings

pub returns-clause-held : goal.returns-clause-held
returns-clause-held c = below_held
