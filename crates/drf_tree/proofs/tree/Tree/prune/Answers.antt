use Rattle.std.proofs.Common.{arith, sym, ◌∙◌}
use Rattle.drf_tree.proofs.growth.Tidy.{tidy_at_root, tidy_at_used}
use Rattle.drf_tree.proofs.growth.Bare.{prune_less, prune_live, prune_start, prune_step}
use Rattle.drf_tree.proofs.tree.Tree.prune.Goals as goal

pub loop-node-init : goal.loop-node-init
loop-node-init c = prune_start c.args.self.now c.requires.shape c.args.leaf c.requires.node

pub is_bare-requires-clause-node : goal.is_bare-requires-clause-node
is_bare-requires-clause-node c =
    prune_live c.args.self.now c.loop-node.self c.args.leaf c.loop-node.node c.loop-node.invariant c.loop-node-test.true

pub wither-requires-clause-node : goal.wither-requires-clause-node
wither-requires-clause-node c =
    prune_live c.args.self.now c.loop-node.self c.args.leaf c.loop-node.node c.loop-node.invariant c.loop-node-test.true

pub loop-node-smaller : goal.loop-node-smaller
loop-node-smaller c =
    omega (
      arith,
      prune_less c.args.self.now c.loop-node.self c.wither.new.self c.args.leaf c.loop-node.node c.parent-parent.result
          c.loop-node.invariant c.loop-node-test.true c.parent-parent.ensures c.wither.ensures.shape c.wither.ensures.tree
          c.wither.ensures.places c.wither.ensures.spends,
    )

pub loop-node-preserved : goal.loop-node-preserved
loop-node-preserved c =
    prune_step c.args.self.now c.loop-node.self c.wither.new.self c.args.leaf c.loop-node.node c.parent-parent.result
    c.loop-node.invariant c.loop-node-test.true c.parent-parent.ensures c.wither.ensures.shape c.wither.ensures.tree
    c.wither.ensures.places c.wither.ensures.spends

pub returns-else-is_bare-clause-tidy : goal.returns-else-is_bare-clause-tidy
returns-else-is_bare-clause-tidy c content of but =
    let so = c.loop-node.invariant in
    tidy_at_used content c.loop-node.self (so.tree content of) c.loop-node.node
    (prune_live c.args.self.now c.loop-node.self c.args.leaf c.loop-node.node so c.loop-node-test.true) (so.tidy content but)
    (sym c.is_bare.ensures ∙ c.if-is_bare.false)

pub returns-after-loop-node-clause-tidy : goal.returns-after-loop-node-clause-tidy
returns-after-loop-node-clause-tidy c content of but =
    let so = c.loop-node.invariant in
    tidy_at_root content c.loop-node.self so.shape c.loop-node.node c.loop-node-test.false (so.tidy content but)
