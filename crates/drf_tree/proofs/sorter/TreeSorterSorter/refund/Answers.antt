use Rattle.std.specs.Prelude.{List}
use Rattle.std.proofs.Common.{ap, refl, subst, sym, ◌∙◌}
use Rattle.std.proofs.lemmas.Bool.{false≢true}
use Rattle.drf_bundle.specs.declared.quantities.Entry.{Entry}
use Rattle.drf_sorter.specs.Content.{Content, active_paths, Ranked, refunded, HoldsAt, with_change}
use Rattle.drf_tree.specs.Ledger.{ledger_content}
use Rattle.drf_tree.specs.declared.ledger.Ledger.{Ledger}
use Rattle.drf_tree.specs.Sorter.{Sorted}
use Rattle.drf_tree.specs.Tree.{IsTreeOf}
use Rattle.drf_tree.proofs.shape.Find.{client_below}
use Rattle.drf_tree.proofs.walk.Kept.{active_stays, kept_along, queue_stays}
use Rattle.drf_tree.proofs.sums.Leaf.{can_refund, known_in, leaf_of, lowerable, lowered_refunded}
use Rattle.drf_tree.proofs.growth.Tidy.{has_changed}
use Rattle.drf_tree.proofs.sorter.TreeSorterSorter.refund.Goals as goal

pub invariant_of-self : goal.invariant_of-self
invariant_of-self c =
    let content = ledger_content c.self.inside.ledger in
    let known =
    known_in c.self.inside.ledger c.args.self.now.ledger c.args.path.now (ap (λ (s : Sorted). s.ledger) c.self.view_is) c.requires.known in
    absurd (false≢true (c.in_default.ensures.every content c.self.invariant.of_ledger (client_below c.args.path.now content.clients known)))

pub lower-requires-clause-lowerable : goal.lower-requires-clause-lowerable
lower-requires-clause-lowerable c =
    let content = ledger_content c.self.inside.ledger in
    let path = c.args.path.now in
    let ledger = ap (λ (s : Sorted). s.ledger) c.self.view_is in
    lowerable content c.self.inside.tree c.in-Some.node c.self.invariant.of_ledger c.in-Some.ensures.live
    path c.in-Some.ensures.at
    (known_in c.self.inside.ledger c.args.self.now.ledger path ledger c.requires.known) c.args.quantities.now 0
    (can_refund content path c.args.quantities.now
    (subst (λ (l : Ledger). HoldsAt (ledger_content l) path c.args.quantities.now) (sym ledger) c.requires.held))

pub invariant_of-self-2 : goal.invariant_of-self-2
invariant_of-self-2 c =
    let content = ledger_content c.self.inside.ledger in
    let tree = c.self.inside.tree in
    let path = c.args.path.now in
    let quantities = c.args.quantities.now in
    let ledger = ap (λ (s : Sorted). s.ledger) c.self.view_is in
    let now : Content = with_change content path (refunded quantities) in
    let known = known_in c.self.inside.ledger c.args.self.now.ledger path ledger c.requires.known in
    let held : HoldsAt content path quantities =
    subst (λ (l : Ledger). HoldsAt (ledger_content l) path quantities) (sym ledger) c.requires.held in
    let along : (total : List Entry) → IsTreeOf (record content { total = total }) tree
    → IsTreeOf (record now { total = total }) c.lower.new.self =
    λ total of.
    let before : Content = record content { total = total } in
    subst (λ (change : Ranked → Ranked). IsTreeOf (with_change before path change) c.lower.new.self) (lowered_refunded quantities)
    (c.lower.ensures.tree before path of
    (leaf_of before tree c.in-Some.node path of known c.in-Some.ensures.live c.in-Some.ensures.at) known
    (can_refund before path quantities held)) in
    kept_along c.refund_at.new.self content now c.refund_at.ensures
    (active_stays path (refunded quantities) (λ d. refl) (λ d. refl) content) tree c.lower.new.self c.self.inside.walk
    c.self.inside.is_total_free (along content.total c.self.invariant.of_ledger) (λ on total. along total (c.self.invariant.free on total))
    (λ i live. has_changed content path (refunded quantities) (λ d. refl) _ (c.self.invariant.tidy i live))
    c.lower.ensures.places c.lower.ensures.families c.self.invariant.frames c.self.invariant.settled

-- a client has a node
pub returns-in_default-clause-queue : goal.returns-in_default-clause-queue
returns-in_default-clause-queue c =
    let content = ledger_content c.self.inside.ledger in
    let known =
    known_in c.self.inside.ledger c.args.self.now.ledger c.args.path.now (ap (λ (s : Sorted). s.ledger) c.self.view_is) c.requires.known in
    absurd (false≢true (c.in_default.ensures.every content c.self.invariant.of_ledger (client_below c.args.path.now content.clients known)))

pub returns-clause-queue : goal.returns-clause-queue
returns-clause-queue c =
    let content = ledger_content c.self.inside.ledger in
    queue_stays content (ledger_content c.refund_at.new.self)
    (ap active_paths c.refund_at.ensures
    ∙ active_stays c.args.path.now (refunded c.args.quantities.now) (λ d. refl) (λ d. refl) content)
    c.self.inside.tree c.lower.new.self c.lower.ensures.places c.lower.ensures.families c.self.inside.walk.frames.items
    ∙ ap (λ (s : Sorted). s.queue) c.self.view_is
