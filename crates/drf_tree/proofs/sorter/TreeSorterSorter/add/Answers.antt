use Rattle.std.specs.Prelude.{List}
use Rattle.std.proofs.Common.{ap, refl, subst, sym, ◌∙◌}
use Rattle.drf_role.specs.Path.{Path}
use Rattle.drf_bundle.specs.declared.quantities.Entry.{Entry}
use Rattle.drf_sorter.specs.Content.{has_client, with_client}
use Rattle.drf_tree.specs.Ledger.{ledger_content}
use Rattle.drf_tree.specs.Sorter.{Sorted}
use Rattle.drf_tree.specs.Tree.{IsTreeOf}
use Rattle.drf_tree.proofs.change.Climb.{node_from_live}
use Rattle.drf_tree.proofs.walk.Kept.{stopped}
use Rattle.drf_tree.proofs.sums.Leaf.{admit_fits, few_clients}
use Rattle.drf_tree.specs.Tidy.{IsTidy, IsTidyBut}
use Rattle.drf_tree.proofs.growth.Tidy.{has_more}
use Rattle.drf_tree.proofs.sorter.TreeSorterSorter.add.Goals as goal

pub invariant_of-self : goal.invariant_of-self
invariant_of-self c =
    stopped c.self.inside.ledger (ledger_content c.self.inside.ledger) refl c.grow.new.self c.stop.new.self c.self.inside.is_total_free
    c.stop.ensures c.in_err-node.ensures.tree
    (λ on. c.in_err-node.ensures.free (c.self.invariant.free on)) (c.in_err-node.ensures.left c.self.invariant.tidy)

pub add-requires : goal.add-requires
add-requires c = ap (λ (s : Sorted). has_client (ledger_content s.ledger) c.args.path) c.self.view_is ∙ c.requires

pub prune-requires-clause-shape : goal.prune-requires-clause-shape
prune-requires-clause-shape c = c.in_ok-node.ensures.tree.shape

pub prune-requires-clause-node : goal.prune-requires-clause-node
prune-requires-clause-node c = node_from_live c.grow.new.self.places.items c.in_ok-node.node c.in_ok-node.ensures.live

pub invariant_of-self-in-Err : goal.invariant_of-self-in-Err
invariant_of-self-in-Err c =
    let content = ledger_content c.self.inside.ledger in
    stopped c.add.new.self content c.in-Err.ensures.err c.prune.new.self c.stop.new.self c.self.inside.is_total_free c.stop.ensures
    (c.prune.ensures.tree content c.in_ok-node.ensures.tree)
    (λ on total. c.prune.ensures.tree (record content { total = total }) (c.in_ok-node.ensures.free (c.self.invariant.free on) total))
    (c.prune.ensures.tidy content c.in_ok-node.ensures.tree
    (subst (λ (p : Path). IsTidyBut p content c.grow.new.self.places.items)
    (sym (c.in_ok-node.ensures.tree.shape.others c.in_ok-node.node c.args.path c.in_ok-node.ensures.client).0)
    (c.in_ok-node.ensures.grown c.self.invariant.tidy)))

pub admit-requires-clause-fits : goal.admit-requires-clause-fits
admit-requires-clause-fits c =
    admit_fits (ledger_content c.self.inside.ledger) c.grow.new.self c.in_ok-node.node c.in_ok-node.ensures.tree c.in_ok-node.ensures.live
    (few_clients c.self.inside.ledger)

pub invariant_of-self-2 : goal.invariant_of-self-2
invariant_of-self-2 c =
    let content = ledger_content c.self.inside.ledger in
    let path = c.args.path in
    let missing = ap (λ (s : Sorted). has_client (ledger_content s.ledger) path) c.self.view_is ∙ c.requires in
    let along : (total : List Entry) → IsTreeOf (record content { total = total }) c.grow.new.self
    → IsTreeOf (record (with_client content path) { total = total }) c.admit.new.self =
    λ total of. c.admit.ensures.tree (record content { total = total }) path of c.in_ok-node.ensures.client missing in
    stopped c.add.new.self (with_client content path) c.in_default.ensures.ok c.admit.new.self c.stop.new.self
    c.self.inside.is_total_free c.stop.ensures (along content.total c.in_ok-node.ensures.tree)
    (λ on total. along total (c.in_ok-node.ensures.free (c.self.invariant.free on) total))
    (subst (λ (v : _). IsTidy (with_client content path) v.items) (sym c.admit.ensures.places)
    (λ i live. has_more content path _ (c.in_ok-node.ensures.grown c.self.invariant.tidy i live)))
