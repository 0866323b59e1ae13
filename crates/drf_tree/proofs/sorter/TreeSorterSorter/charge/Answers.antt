use Rattle.std.proofs.Common.{ap, false, refl, subst, sym, ◌∙◌}
use Rattle.std.proofs.lemmas.Bool.{false≢true}
use Rattle.drf_sorter.specs.Content.{Content, IsSound, charged, active_paths, with_change}
use Rattle.drf_tree.specs.Ledger.{ledger_content}
use Rattle.drf_tree.specs.declared.ledger.Ledger.{Ledger}
use Rattle.drf_tree.specs.Nodes.{is_live, path_at}
use Rattle.drf_tree.specs.Sorter.{Sorted}
use Rattle.drf_tree.proofs.shape.Find.{client_below}
use Rattle.drf_tree.proofs.walk.Kept.{active_stays, kept_along, kept_by, queue_stays, total_counts}
use Rattle.drf_tree.proofs.sums.Leaf.{known_in, leaf_of, room}
use Rattle.drf_tree.proofs.growth.Tidy.{has_changed}
use Rattle.drf_tree.proofs.sorter.TreeSorterSorter.charge.Goals as goal

pub returns-in_default-clause-ok : goal.returns-in_default-clause-ok
returns-in_default-clause-ok c =
    let content = ledger_content c.self.inside.ledger in
    let known =
    known_in c.self.inside.ledger c.args.self.now.ledger c.args.path.now (ap (λ (s : Sorted). s.ledger) c.self.view_is) c.requires.known in
    absurd (false≢true (c.in_default.ensures.every content c.self.invariant.of_ledger (client_below c.args.path.now content.clients known)))

pub invariant_of-self : goal.invariant_of-self
invariant_of-self c =
    let content = ledger_content c.self.inside.ledger in
    kept_by c.self.inside.ledger content refl c.self.inside.tree c.name_labels.new.self c.self.inside.walk false
    (c.name_labels.ensures.tree content c.self.invariant.of_ledger) (total_counts content c.name_labels.new.self) c.self.invariant.tidy
    c.name_labels.ensures.places c.name_labels.ensures.families c.self.invariant.frames c.self.invariant.settled

pub invariant_of-self-in_err-charge_at : goal.invariant_of-self-in_err-charge_at
invariant_of-self-in_err-charge_at c =
    let content = ledger_content c.self.inside.ledger in
    kept_by c.charge_at.new.self content c.in_err-charge_at.ensures.err c.self.inside.tree c.name_labels.new.self c.self.inside.walk false
    (c.name_labels.ensures.tree content c.self.invariant.of_ledger) (total_counts content c.name_labels.new.self) c.self.invariant.tidy
    c.name_labels.ensures.places c.name_labels.ensures.families c.self.invariant.frames c.self.invariant.settled

pub charge-requires-clause-shape : goal.charge-requires-clause-shape
charge-requires-clause-shape c =
    (c.name_labels.ensures.tree (ledger_content c.self.inside.ledger) c.self.invariant.of_ledger).shape

pub charge-requires-clause-room : goal.charge-requires-clause-room
charge-requires-clause-room c =
    let ledger = ap (λ (s : Sorted). s.ledger) c.self.view_is in
    let content = ledger_content c.self.inside.ledger in
    let places = c.name_labels.ensures.places in
    room content c.name_labels.new.self c.in-Some.node (c.name_labels.ensures.tree content c.self.invariant.of_ledger)
    (ap (λ (v : _). is_live v.items c.in-Some.node) places ∙ c.in-Some.ensures.live)
    c.args.path.now (ap (λ (v : _). path_at v.items c.in-Some.node) places ∙ c.in-Some.ensures.at)
    (known_in c.self.inside.ledger c.args.self.now.ledger c.args.path.now ledger c.requires.known) c.args.quantities.now c.args.offers
    (subst (λ (l : Ledger). IsSound (with_change (ledger_content l) c.args.path.now (charged c.args.quantities.now c.args.offers)))
    (sym ledger) c.requires.sound)

pub invariant_of-self-2 : goal.invariant_of-self-2
invariant_of-self-2 c =
    let content = ledger_content c.self.inside.ledger in
    let path = c.args.path.now in
    let now : Content = with_change content path (charged c.args.quantities.now c.args.offers) in
    let known =
    known_in c.self.inside.ledger c.args.self.now.ledger path (ap (λ (s : Sorted). s.ledger) c.self.view_is) c.requires.known in
    let places = c.name_labels.ensures.places in
    let of = c.name_labels.ensures.tree content c.self.invariant.of_ledger in
    kept_along c.charge_at.new.self content now c.in_ok-charge_at.ensures.ok
    (active_stays path (charged c.args.quantities.now c.args.offers) (λ d. refl) (λ d. refl) content)
    c.self.inside.tree c.charge.new.self c.self.inside.walk false
    (c.charge.ensures.tree content path of
    (leaf_of content c.name_labels.new.self c.in-Some.node path of known
    (ap (λ (v : _). is_live v.items c.in-Some.node) places ∙ c.in-Some.ensures.live)
    (ap (λ (v : _). path_at v.items c.in-Some.node) places ∙ c.in-Some.ensures.at)) known)
    (total_counts now c.charge.new.self)
    (λ i live. has_changed content path (charged c.args.quantities.now c.args.offers) (λ d. refl) _ (c.self.invariant.tidy i live))
    (c.charge.ensures.places ∙ places) (c.charge.ensures.families ∙ c.name_labels.ensures.families)
    c.self.invariant.frames c.self.invariant.settled

pub returns-clause-queue : goal.returns-clause-queue
returns-clause-queue c =
    let content = ledger_content c.self.inside.ledger in
    queue_stays content (ledger_content c.charge_at.new.self)
    (ap active_paths c.in_ok-charge_at.ensures.ok
    ∙ active_stays c.args.path.now (charged c.args.quantities.now c.args.offers) (λ d. refl) (λ d. refl) content)
    c.self.inside.tree c.charge.new.self (c.charge.ensures.places ∙ c.name_labels.ensures.places)
    (c.charge.ensures.families ∙ c.name_labels.ensures.families) c.self.inside.walk.frames.items
    ∙ ap (λ (s : Sorted). s.queue) c.self.view_is
