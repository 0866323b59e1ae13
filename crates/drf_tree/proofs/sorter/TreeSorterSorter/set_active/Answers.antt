use Rattle.std.specs.Prelude.{List}
use Rattle.std.proofs.Common.{ap, refl}
use Rattle.std.proofs.lemmas.Bool.{false≢true}
use Rattle.drf_bundle.specs.declared.quantities.Entry.{Entry}
use Rattle.drf_sorter.specs.Content.{Content, activated, with_change}
use Rattle.drf_tree.specs.Ledger.{ledger_content}
use Rattle.drf_tree.specs.Sorter.{Sorted}
use Rattle.drf_tree.specs.Tree.{IsTreeOf}
use Rattle.drf_tree.proofs.shape.Find.{client_below}
use Rattle.drf_tree.proofs.walk.Kept.{stopped}
use Rattle.drf_tree.proofs.sums.Leaf.{active_fits, few_clients, known_in, leaf_of, least}
use Rattle.drf_tree.proofs.growth.Tidy.{has_changed, tidy_along}
use Rattle.drf_tree.proofs.sorter.TreeSorterSorter.set_active.Goals as goal

pub invariant_of-self : goal.invariant_of-self
invariant_of-self c =
    let content = ledger_content c.self.inside.ledger in
    let known =
    known_in c.self.inside.ledger c.args.self.now.ledger c.args.path.now (ap (λ (s : Sorted). s.ledger) c.self.view_is) c.requires in
    absurd (false≢true (c.in_default.ensures.every content c.self.invariant.of_ledger (client_below c.args.path.now content.clients known)))

pub set_active-requires-clause-least : goal.set_active-requires-clause-least
set_active-requires-clause-least c =
    least (ledger_content c.self.inside.ledger) c.self.inside.tree c.in-Some.node c.self.invariant.of_ledger c.in-Some.ensures.live

pub set_active-requires-clause-fits : goal.set_active-requires-clause-fits
set_active-requires-clause-fits c =
    active_fits (ledger_content c.self.inside.ledger) c.self.inside.tree c.in-Some.node c.self.invariant.of_ledger c.in-Some.ensures.live
    (few_clients c.self.inside.ledger)

pub invariant_of-self-2 : goal.invariant_of-self-2
invariant_of-self-2 c =
    let content = ledger_content c.self.inside.ledger in
    let tree = c.self.inside.tree in
    let path = c.args.path.now in
    let known = known_in c.self.inside.ledger c.args.self.now.ledger path (ap (λ (s : Sorted). s.ledger) c.self.view_is) c.requires in
    let now : Content = with_change content path (activated c.args.active) in
    let along : (total : List Entry) → IsTreeOf (record content { total = total }) tree
    → IsTreeOf (record now { total = total }) c.set_active.new.self =
    λ total of.
    let before : Content = record content { total = total } in
    c.set_active.ensures.tree before path of
    (leaf_of before tree c.in-Some.node path of known c.in-Some.ensures.live c.in-Some.ensures.at) known in
    stopped c.set_active_at.new.self now c.set_active_at.ensures c.set_active.new.self c.stop.new.self c.self.inside.is_total_free
    c.stop.ensures (along content.total c.self.invariant.of_ledger) (λ on total. along total (c.self.invariant.free on total))
    (tidy_along content now tree.places.items c.set_active.new.self.places.items (ap (λ (v : _). v.items) c.set_active.ensures.places)
    (has_changed content path (activated c.args.active) (λ d. refl)) c.self.invariant.tidy)
