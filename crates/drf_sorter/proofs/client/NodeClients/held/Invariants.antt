use Rattle.std.proofs.Common.{◌≡◌, take}
use Rattle.std.specs.List.{sum_by}
use Rattle.drf_bundle.specs.Quantities.{amount_of}
use Rattle.drf_role.specs.Path.{begins_with}
use Rattle.drf_role.specs.Text.{Text}
use Rattle.drf_sorter.proofs.SumLemmas.{part_of}
use Rattle.drf_sorter.proofs.client.NodeClients.held.Given as goal

abbrev pub invariant-loop-client : goal.invariant-loop-client
invariant-loop-client l =
    (label : Text) → amount_of l.held label
    ≡ sum_by (part_of (λ c. begins_with c.path l.self.node.now) (λ c. amount_of c.held label))
    (take l.client-index l.self.clients.now)
