use Rattle.std.specs.Option.{is_some, option_map_or}
use Rattle.std.proofs.Common.{ap, arith, subst, sym, ◌∙◌, ◌==◌, ◌||◌, [], Option, take}
use Rattle.drf_tree.proofs.Names.{Path, ledger_content, Place, IsTidyBut}
use Rattle.drf_tree.proofs.marks.Flags.{spends-both}
use Rattle.drf_tree.proofs.shape.Find.{take_whole}
use Rattle.drf_tree.proofs.growth.Tidy.{but_along}
use Rattle.drf_tree.proofs.growth.Grow.{grow_start, grow_step, grown_client, grown_live}
use Rattle.drf_tree.proofs.tree.Tree.grow.Goals as goal

pub loop-i-init : goal.loop-i-init
loop-i-init c = grow_start (ledger_content c.args.ledger.now) c.args.self.now c.args.path.now c.requires.tree

pub loop-i-preserved : goal.loop-i-preserved
loop-i-preserved c =
    let e = c.in-Ok.ensures in
    grow_step (ledger_content c.args.ledger.now) c.args.self.now c.loop-i.self c.step.new.self c.args.path.now c.loop-i.node c.loop-i.i
    c.in-Ok.child c.loop-i.invariant e.tree e.free e.live e.path e.spends e.one

pub prune-requires-clause-shape : goal.prune-requires-clause-shape
prune-requires-clause-shape c = c.in-Err.ensures.tree.shape

pub prune-requires-clause-node : goal.prune-requires-clause-node
prune-requires-clause-node c =
    ap (λ (place : Option Place). (c.loop-i.node == 0) || is_some place) (c.in-Err.ensures.err c.loop-i.node)
    ∙ c.loop-i.invariant.there

pub returns-in-Err-clause-tree : goal.returns-in-Err-clause-tree
returns-in-Err-clause-tree c = c.prune.ensures.tree (ledger_content c.args.ledger.now) c.in-Err.ensures.tree

pub returns-in-Err-clause-free : goal.returns-in-Err-clause-free
returns-in-Err-clause-free c was =
    let content = ledger_content c.args.ledger.now in
    λ total. c.prune.ensures.tree (record content { total = total }) (c.in-Err.ensures.free (c.loop-i.invariant.free was) total)

pub returns-in-Err-clause-spends : goal.returns-in-Err-clause-spends
returns-in-Err-clause-spends c =
    let so_far = spends-both c.loop-i.invariant.spends c.in-Err.ensures.spends in
    let pruned = c.prune.ensures.spends in
    record {
      made = omega (arith, pruned.made, so_far.made);
      work = omega (arith, pruned.work, so_far.work, c.loop-i-test.true, c.len-i-end.ensures.len);
    }

pub returns-clause-live : goal.returns-clause-live
returns-clause-live c =
    grown_live (ledger_content c.args.ledger.now) c.args.self.now c.loop-i.self c.args.path.now c.loop-i.node c.loop-i.i c.loop-i.invariant
    c.len-i-end.ensures.right (omega (arith, c.len-i-end.ensures.len, c.loop-i-test.false))

pub returns-clause-client : goal.returns-clause-client
returns-clause-client c =
    grown_client (ledger_content c.args.ledger.now) c.args.self.now c.loop-i.self c.args.path.now c.loop-i.node c.loop-i.i c.loop-i.invariant
    c.len-i-end.ensures.right (omega (arith, c.len-i-end.ensures.len, c.loop-i-test.false))

pub returns-clause-spends : goal.returns-clause-spends
returns-clause-spends c =
    let so = c.loop-i.invariant.spends in
    record { made = so.made; work = omega (arith, so.work, c.loop-i.auto.i-end, c.len-i-end.ensures.len) }

pub returns-in-Err-clause-left : goal.returns-in-Err-clause-left
returns-in-Err-clause-left c =
    let content = ledger_content c.args.ledger.now in
    let old = c.loop-i.self in
    let new = c.step.new.self in
    λ tidy.
    c.prune.ensures.tidy content c.in-Err.ensures.tree
    (subst (λ (p : Path). IsTidyBut p content new.places.items)
    (sym c.loop-i.invariant.at ∙ ap (λ (o : Option Place). option_map_or (λ p. p.path) o []) (sym (c.in-Err.ensures.err c.loop-i.node)))
    (but_along content (take c.loop-i.i c.args.path.now) old.places.items new.places.items c.in-Err.ensures.err (c.loop-i.invariant.but tidy)))

pub returns-clause-grown : goal.returns-clause-grown
returns-clause-grown c = λ tidy.
    subst (λ (p : Path). IsTidyBut p (ledger_content c.args.ledger.now) c.loop-i.self.places.items)
    (take_whole c.args.path.now c.loop-i.i (omega (arith, c.len-i-end.ensures.len, c.loop-i-test.false))) (c.loop-i.invariant.but tidy)
