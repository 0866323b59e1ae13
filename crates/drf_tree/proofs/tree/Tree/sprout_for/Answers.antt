use Rattle.std.proofs.Common.{ap, subst, sym, ◌∙◌, OnOk}
use Rattle.drf_tree.proofs.Names.{IsNodePath, Path, IsOneMore, has_node, ledger_content}
use Rattle.drf_tree.proofs.growth.Grow.{prefix_right}
use Rattle.drf_tree.proofs.tree.Tree.sprout_for.Goals as goal

pub sprout-requires-clause-right : goal.sprout-requires-clause-right
sprout-requires-clause-right c =
    subst IsNodePath (sym c.in_ok-node.ensures)
    (prefix_right c.args.path.now c.args.len c.requires.right c.requires.some c.requires.within)

pub returns-clause-tree : goal.returns-clause-tree
returns-clause-tree c =
    let content = ledger_content c.args.ledger.now in
    c.sprout.ensures.tree content c.requires.tree c.weight_of-weight.ensures
    (ap (has_node content) c.in_ok-node.ensures ∙ c.requires.nobody)

pub returns-clause-free : goal.returns-clause-free
returns-clause-free c was =
    let content = ledger_content c.args.ledger.now in
    λ total. c.sprout.ensures.tree (record content { total = total }) (was total) c.weight_of-weight.ensures
    (ap (has_node content) c.in_ok-node.ensures ∙ c.requires.nobody)

pub returns-clause-one : goal.returns-clause-one
returns-clause-one c =
    subst (λ (p : Path). OnOk c.sprout.result (IsOneMore p c.args.self.now.places.items c.sprout.new.self.places.items)) c.in_ok-node.ensures
    c.sprout.ensures.one
