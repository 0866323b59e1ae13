use Rattle.std.proofs.Common.{refl, subst, sym, true}
use Rattle.drf_sorter.specs.Content.{Content, HasNodes}
use Rattle.drf_tree.specs.Ledger.{ledger_content}
use Rattle.drf_tree.specs.Sorter.{Sorted}
use Rattle.drf_tree.specs.Tidy.{IsTidy}
use Rattle.drf_tree.specs.Tree.{IsTotalFree}
use Rattle.drf_tree.proofs.marks.Count.{few_stale}
use Rattle.drf_tree.proofs.walk.Kept.{kept_by, settled_along}
use Rattle.drf_tree.proofs.keys.Renew.{ledger_weighs}
use Rattle.drf_tree.proofs.sorter.TreeSorterSorter.set_total.Goals as goal

-- the tree is right for this total without a change
pub invariant_of-self : goal.invariant_of-self
invariant_of-self c =
    let content = ledger_content c.self.inside.ledger in
    let tree = c.self.inside.tree in
    let new : Content = record content { total = c.args.total } in
    let free = c.self.invariant.free c.if-self.true in
    kept_by c.set_total.new.self new c.set_total.ensures tree tree c.self.inside.walk c.self.inside.is_total_free
    (free c.args.total) (λ on. free) c.self.invariant.tidy refl refl c.self.invariant.frames
    (settled_along content new tree.places.items tree.families.items refl c.self.inside.walk.frames.items c.self.invariant.settled)

pub invariant_of-self-2 : goal.invariant_of-self-2
invariant_of-self-2 c =
    let content = ledger_content c.self.inside.ledger in
    let right : IsTotalFree content c.mark_all.new.self =
    λ total. c.mark_all.ensures.tree content total (ledger_weighs c.self.inside.ledger) c.self.invariant.of_ledger in
    let new : Content = record content { total = c.args.total } in
    kept_by c.set_total.new.self new c.set_total.ensures c.self.inside.tree c.mark_all.new.self c.self.inside.walk true
    (right c.args.total) (λ on. right) c.self.invariant.tidy c.mark_all.ensures.places c.mark_all.ensures.families
    c.self.invariant.frames
    (settled_along content new c.self.inside.tree.places.items c.self.inside.tree.families.items refl c.self.inside.walk.frames.items
    c.self.invariant.settled)

-- ---- at most as many keys are stale as there are nodes

pub returns-then-self-clause-stale : goal.returns-then-self-clause-stale
returns-then-self-clause-stale c = λ nodes has counted.
    few_stale (ledger_content c.self.inside.ledger) c.self.inside.tree nodes c.self.invariant.of_ledger.shape c.self.invariant.tidy
    (subst (λ (s : Sorted). HasNodes (ledger_content s.ledger) nodes) (sym c.self.view_is) has)

pub returns-clause-stale : goal.returns-clause-stale
returns-clause-stale c = λ nodes has counted.
    let content = ledger_content c.self.inside.ledger in
    let of = c.mark_all.ensures.tree content c.args.total (ledger_weighs c.self.inside.ledger) c.self.invariant.of_ledger in
    few_stale content c.mark_all.new.self nodes of.shape
    (subst (λ (places : _). IsTidy content places.items) (sym c.mark_all.ensures.places) c.self.invariant.tidy)
    (subst (λ (s : Sorted). HasNodes (ledger_content s.ledger) nodes) (sym c.self.view_is) has)
