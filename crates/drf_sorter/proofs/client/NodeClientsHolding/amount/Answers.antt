use Rattle.std.proofs.Common.{arith, rules}
use Rattle.drf_bundle.specs.Quantities.{amount_of}
use Rattle.drf_role.specs.Path.{begins_with}
use Rattle.drf_sorter.specs.declared.client.Client.{Client}
use Rattle.drf_sorter.proofs.SumLemmas.{sum_part_fits, sum_part_all}
use Rattle.drf_sorter.proofs.client.NodeClientsHolding.amount.Goals as goal

pub overflow_add-held : goal.overflow_add-held
overflow_add-held c =
    let clients = c.args.self.now.clients.now in
    let node = c.args.self.now.node.now in
    let label = c.args.label.now in
    let fits =
    sum_part_fits (λ (x : Client). begins_with x.path node) (λ x. amount_of x.held label) clients
    c.loop-client.client-index c.client-item.result c.loop-client.held c.loop-client-test.true c.client-item.is
    c.loop-client.invariant (search rules) in
    omega (arith, fits, c.requires, c.amount_of-held.ensures)

pub returns : goal.returns
returns c =
    let clients = c.args.self.now.clients.now in
    let node = c.args.self.now.node.now in
    let label = c.args.label.now in
    sum_part_all (λ (x : Client). begins_with x.path node) (λ x. amount_of x.held label) clients
    c.loop-client.client-index c.loop-client.held c.loop-client-test.false c.loop-client.invariant
