use Rattle.std.proofs.Common.{arith, refl, length}
use Rattle.std.proofs.lemmas.Option.{slice_get_read}
use Rattle.drf_tree.proofs.shape.Node.{live_within}
use Rattle.drf_tree.proofs.change.Weigh.{weighed_tree}
use Rattle.drf_tree.proofs.tree.Tree.weigh.Goals as goal

pub returns-clause-tree : goal.returns-clause-tree
returns-clause-tree c content of =
    let old = c.args.self.now in
    let s = c.index_mut-sum.result.now in
    let below = live_within old.places.items c.args.node c.requires.live in
    let there =
    slice_get_read old.sums.items (length old.sums.items) c.args.node s refl (omega (arith, below, c.requires.shape.sums_long))
    c.index_mut-sum.ensures.value in
    weighed_tree content c.args.weight old c.args.node of c.requires.live s there _ refl _ refl _ refl refl refl
    (λ i. (c.mark.ensures.flags i).stale)
