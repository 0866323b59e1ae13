use Rattle.std.proofs.Common.{arith, ◌∙◌, ap, sym, List}
use Rattle.drf_bundle.specs.Quantities.{amount_of}
use Rattle.drf_bundle.proofs.theorems.QuantitiesLaws.{amount-plus}
use Rattle.drf_bundle.specs.declared.quantities.Entry.{Entry}
use Rattle.drf_role.specs.Path.{begins_with}
use Rattle.drf_sorter.specs.declared.client.Client.{Client}
use Rattle.drf_sorter.proofs.SumLemmas.{sum_part_all, sum_part_fits, sum_part_more, sum_part_same}
use Rattle.drf_sorter.proofs.client.NodeClients.held.Goals.{then-begins_with+in_ok-held, else-begins_with}
use Rattle.drf_sorter.proofs.client.NodeClients.held.Goals as goal

pub plus-requires : goal.plus-requires
plus-requires c label =
    let clients = c.args.self.now.clients.now in
    let node = c.args.self.now.node.now in
    let fits =
    sum_part_fits (λ (x : Client). begins_with x.path node) (λ x. amount_of x.held label) clients c.loop-client.client-index
    c.client-item.result (amount_of c.loop-client.held label) c.loop-client-test.true c.client-item.is
    (c.loop-client.invariant label) (sym c.begins_with.ensures ∙ c.if-begins_with.true) in
    omega (arith, fits, c.requires label)

pub loop-client-preserved : goal.loop-client-preserved
loop-client-preserved c label =
    let clients = c.args.self.now.clients.now in
    let node = c.args.self.now.node.now in
    elim c.if-begins_with.branch [
      | then-begins_with+in_ok-held w ↦
          ap (λ (es : List Entry). amount_of es label) (w.held-is ∙ w.in_ok-held.ensures)
          ∙ amount-plus c.loop-client.held c.client-item.result.held label w.recall.ensures
          ∙ sum_part_more (λ (x : Client). begins_with x.path node) (λ x. amount_of x.held label) clients c.loop-client.client-index
          c.client-item.result (amount_of c.loop-client.held label) c.loop-client-test.true c.client-item.is
          (c.loop-client.invariant label) (sym c.begins_with.ensures ∙ w.if-begins_with.true)
      | else-begins_with w ↦
          ap (λ (es : List Entry). amount_of es label) w.held-is
          ∙ sum_part_same (λ (x : Client). begins_with x.path node) (λ x. amount_of x.held label) clients c.loop-client.client-index
          c.client-item.result (amount_of c.loop-client.held label) c.loop-client-test.true c.client-item.is
          (c.loop-client.invariant label) (sym c.begins_with.ensures ∙ w.if-begins_with.false)
    ]

pub returns : goal.returns
returns c label =
    let clients = c.args.self.now.clients.now in
    let node = c.args.self.now.node.now in
    sum_part_all (λ (x : Client). begins_with x.path node) (λ x. amount_of x.held label) clients c.loop-client.client-index
    (amount_of c.loop-client.held label) c.loop-client-test.false (c.loop-client.invariant label)
