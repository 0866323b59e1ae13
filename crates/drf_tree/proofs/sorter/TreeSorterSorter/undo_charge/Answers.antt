use Rattle.std.proofs.Common.{ap, false, refl, subst, sym, ◌∙◌}
use Rattle.std.proofs.lemmas.Bool.{false≢true}
use Rattle.drf_sorter.specs.Content.{Content, active_paths, discharged, HasChargeAt, with_change}
use Rattle.drf_tree.specs.Ledger.{ledger_content}
use Rattle.drf_tree.specs.declared.ledger.Ledger.{Ledger}
use Rattle.drf_tree.specs.Sorter.{Sorted}
use Rattle.drf_tree.proofs.shape.Find.{client_below}
use Rattle.drf_tree.proofs.walk.Kept.{active_stays, kept_along, queue_stays, total_counts}
use Rattle.drf_tree.proofs.sums.Leaf.{can_discharge, known_in, leaf_of, lowerable}
use Rattle.drf_tree.proofs.growth.Tidy.{has_changed}
use Rattle.drf_tree.proofs.sorter.TreeSorterSorter.undo_charge.Goals as goal

pub invariant_of-self : goal.invariant_of-self
invariant_of-self c =
    let content = ledger_content c.self.inside.ledger in
    let known =
    known_in c.self.inside.ledger c.args.self.now.ledger c.args.path.now (ap (λ (s : Sorted). s.ledger) c.self.view_is) c.requires.known in
    absurd (false≢true (c.in_default.ensures.every content c.self.invariant.of_ledger (client_below c.args.path.now content.clients known)))

pub lower-requires-clause-lowerable : goal.lower-requires-clause-lowerable
lower-requires-clause-lowerable c =
    let content = ledger_content c.self.inside.ledger in
    let path = c.args.path.now in
    let ledger = ap (λ (s : Sorted). s.ledger) c.self.view_is in
    lowerable content c.self.inside.tree c.in-Some.node c.self.invariant.of_ledger c.in-Some.ensures.live
    path c.in-Some.ensures.at
    (known_in c.self.inside.ledger c.args.self.now.ledger path ledger c.requires.known) c.args.quantities.now 1
    (can_discharge content path c.args.quantities.now
    (subst (λ (l : Ledger). HasChargeAt (ledger_content l) path c.args.quantities.now) (sym ledger) c.requires.charged))

pub invariant_of-self-2 : goal.invariant_of-self-2
invariant_of-self-2 c =
    let content = ledger_content c.self.inside.ledger in
    let tree = c.self.inside.tree in
    let path = c.args.path.now in
    let ledger = ap (λ (s : Sorted). s.ledger) c.self.view_is in
    let now : Content = with_change content path (discharged c.args.quantities.now) in
    let known = known_in c.self.inside.ledger c.args.self.now.ledger path ledger c.requires.known in
    kept_along c.undo_charge_at.new.self content now c.undo_charge_at.ensures
    (active_stays path (discharged c.args.quantities.now) (λ d. refl) (λ d. refl) content) tree c.lower.new.self c.self.inside.walk false
    (c.lower.ensures.tree content path c.self.invariant.of_ledger
    (leaf_of content tree c.in-Some.node path c.self.invariant.of_ledger known c.in-Some.ensures.live c.in-Some.ensures.at) known
    (can_discharge content path c.args.quantities.now
    (subst (λ (l : Ledger). HasChargeAt (ledger_content l) path c.args.quantities.now) (sym ledger) c.requires.charged))) (total_counts now c.lower.new.self)
    (λ i live. has_changed content path (discharged c.args.quantities.now) (λ d. refl) _ (c.self.invariant.tidy i live))
    c.lower.ensures.places c.lower.ensures.families c.self.invariant.frames c.self.invariant.settled

-- a client has a node
pub returns-in_default-clause-queue : goal.returns-in_default-clause-queue
returns-in_default-clause-queue c =
    let content = ledger_content c.self.inside.ledger in
    let known =
    known_in c.self.inside.ledger c.args.self.now.ledger c.args.path.now (ap (λ (s : Sorted). s.ledger) c.self.view_is) c.requires.known in
    absurd (false≢true (c.in_default.ensures.every content c.self.invariant.of_ledger (client_below c.args.path.now content.clients known)))

pub returns-clause-queue : goal.returns-clause-queue
returns-clause-queue c =
    let content = ledger_content c.self.inside.ledger in
    queue_stays content (ledger_content c.undo_charge_at.new.self)
    (ap active_paths c.undo_charge_at.ensures
    ∙ active_stays c.args.path.now (discharged c.args.quantities.now) (λ d. refl) (λ d. refl) content)
    c.self.inside.tree c.lower.new.self c.lower.ensures.places c.lower.ensures.families c.self.inside.walk.frames.items
    ∙ ap (λ (s : Sorted). s.queue) c.self.view_is
