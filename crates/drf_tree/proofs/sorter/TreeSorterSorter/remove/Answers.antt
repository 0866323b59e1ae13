use Rattle.std.specs.Prelude.{List}
use Rattle.std.proofs.Common.{ap, subst, sym, ◌∙◌}
use Rattle.drf_role.specs.Path.{Path}
use Rattle.drf_tree.specs.Nodes.{path_at}
use Rattle.std.proofs.lemmas.Bool.{false≢true}
use Rattle.drf_bundle.specs.declared.quantities.Entry.{Entry}
use Rattle.drf_sorter.specs.Content.{Content, has_client, without_client}
use Rattle.drf_tree.specs.Ledger.{ledger_content}
use Rattle.drf_tree.specs.Sorter.{Sorted}
use Rattle.drf_tree.specs.Tree.{IsTreeOf}
use Rattle.drf_tree.proofs.shape.Find.{client_below}
use Rattle.drf_tree.proofs.walk.Kept.{stopped}
use Rattle.drf_tree.proofs.sums.Leaf.{leaf_of, least}
use Rattle.drf_tree.specs.Tidy.{IsTidyBut}
use Rattle.drf_tree.proofs.growth.Tidy.{has_less}
use Rattle.drf_tree.proofs.sorter.TreeSorterSorter.remove.Goals as goal

pub remove-known-requires : goal.remove-known-requires
remove-known-requires c = ap (λ (s : Sorted). has_client (ledger_content s.ledger) c.args.path.now) c.self.view_is ∙ c.requires

pub dismiss-requires-clause-least : goal.dismiss-requires-clause-least
dismiss-requires-clause-least c =
    least (ledger_content c.self.inside.ledger) c.self.inside.tree c.in-Some.node c.self.invariant.of_ledger c.in-Some.ensures.live

pub prune-requires-clause-shape : goal.prune-requires-clause-shape
prune-requires-clause-shape c =
    let content = ledger_content c.self.inside.ledger in
    let path = c.args.path.now in
    let of = c.self.invariant.of_ledger in
    let has = ap (λ (s : Sorted). has_client (ledger_content s.ledger) path) c.self.view_is ∙ c.requires in
    (c.dismiss.ensures.tree content path of
    (leaf_of content c.self.inside.tree c.in-Some.node path of has c.in-Some.ensures.live c.in-Some.ensures.at) has).shape

-- a client has a node
pub invariant_of-self : goal.invariant_of-self
invariant_of-self c =
    let content = ledger_content c.self.inside.ledger in
    let has = ap (λ (s : Sorted). has_client (ledger_content s.ledger) c.args.path.now) c.self.view_is ∙ c.requires in
    absurd (false≢true
    (c.in_default.ensures.every content c.self.invariant.of_ledger (client_below c.args.path.now content.clients has)))

pub invariant_of-self-2 : goal.invariant_of-self-2
invariant_of-self-2 c =
    let content = ledger_content c.self.inside.ledger in
    let tree = c.self.inside.tree in
    let path = c.args.path.now in
    let has = ap (λ (s : Sorted). has_client (ledger_content s.ledger) path) c.self.view_is ∙ c.requires in
    let along : (total : List Entry) → IsTreeOf (record content { total = total }) tree
    → IsTreeOf (record (without_client content path) { total = total }) c.prune.new.self =
    λ total of.
    let before : Content = record content { total = total } in
    let at = leaf_of before tree c.in-Some.node path of has c.in-Some.ensures.live c.in-Some.ensures.at in
    c.prune.ensures.tree (without_client before path) (c.dismiss.ensures.tree before path of at has) in
    stopped c.remove-known.new.self (without_client content path) c.remove-known.ensures c.prune.new.self c.stop.new.self
    c.self.inside.is_total_free c.stop.ensures (along content.total c.self.invariant.of_ledger)
    (λ on total. along total (c.self.invariant.free on total))
    (c.prune.ensures.tidy (without_client content path)
    (c.dismiss.ensures.tree content path c.self.invariant.of_ledger
    (leaf_of content tree c.in-Some.node path c.self.invariant.of_ledger has c.in-Some.ensures.live c.in-Some.ensures.at) has)
    (subst (λ (v : _). IsTidyBut (path_at v.items c.in-Some.node) (without_client content path) v.items) (sym c.dismiss.ensures.places)
    (subst (λ (p : Path). IsTidyBut p (without_client content path) tree.places.items) (sym c.in-Some.ensures.at)
    (λ i live. has_less content path _ (c.self.invariant.tidy i live)))))
