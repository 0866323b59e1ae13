use Rattle.std.proofs.Common.{◌≡◌, ◌<◌, arith, length, slice_get, sym, ◌∙◌, None, Some}
use Rattle.drf_tree.specs.Nodes.{family_at}
use Rattle.drf_tree.proofs.shape.Node.{active_read, read_at, sum_within}
use Rattle.drf_tree.proofs.walk.next_at.Goals.{In-Some}
use Rattle.drf_tree.proofs.walk.next_at.Goals as goal

pub returns-in_default : goal.returns-in_default
returns-in_default c =
    read_at c.args.tree.now c.requires.shape c.args.frame.node c.args.frame.next c.index.result.now c.requires.node
    c.index.ensures None c.in_default.ensures

some_at : (c : In-Some) → slice_get (family_at c.args.tree.now.families.items c.args.frame.node) c.args.frame.next ≡ Some c.in-Some.node
some_at c =
    read_at c.args.tree.now c.requires.shape c.args.frame.node c.args.frame.next c.index.result.now c.requires.node
    c.index.ensures (Some c.in-Some.node) c.in-Some.ensures

below_at : (c : In-Some) → c.in-Some.node < length c.args.tree.now.sums.items
below_at c = sum_within c.args.tree.now c.requires.shape c.args.frame.node c.args.frame.next c.in-Some.node (some_at c)

pub index-requires-2 : goal.index-requires-2
index-requires-2 c = omega (arith, below_at (goal.at.index-requires-2 c).In-Some, c.args.tree.now.sums.ok.0)

pub returns-then-index-eq0 : goal.returns-then-index-eq0
returns-then-index-eq0 c =
    let b = (goal.at.returns-then-index-eq0 c).In-Some in
    (c.in-Some.node, some_at b, active_read c.args.tree.now.sums.items c.in-Some.node c.index-2.result.now (below_at b) c.index-2.ensures ∙ c.if-index-eq0.true)

pub returns-then-is_client : goal.returns-then-is_client
returns-then-is_client c =
    let b = (goal.at.returns-then-is_client c).In-Some in
    let active = active_read c.args.tree.now.sums.items c.in-Some.node c.index-2.result.now (below_at b) c.index-2.ensures in
    (c.in-Some.node, some_at b, omega (arith, active), sym c.is_client.ensures ∙ c.if-is_client.true)

pub returns-else-is_client : goal.returns-else-is_client
returns-else-is_client c =
    let b = (goal.at.returns-else-is_client c).In-Some in
    let active = active_read c.args.tree.now.sums.items c.in-Some.node c.index-2.result.now (below_at b) c.index-2.ensures in
    (some_at b, omega (arith, active), sym c.is_client.ensures ∙ c.if-is_client.false)
