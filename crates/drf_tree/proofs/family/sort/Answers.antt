use Rattle.std.proofs.Common.{arith}
use Rattle.drf_tree.proofs.keys.Siblings.{sorted_anew, sorted_few}
use Rattle.drf_tree.proofs.family.sort.Goals as goal

pub returns-then-len-gt1-clause-sorted : goal.returns-then-len-gt1-clause-sorted
returns-then-len-gt1-clause-sorted c = sorted_anew c.sort_unstable.new.self.items c.sort_unstable.ensures.sorted

pub returns-else-len-gt1-clause-sorted : goal.returns-else-len-gt1-clause-sorted
returns-else-len-gt1-clause-sorted c =
    sorted_few c.args.children.now.items (omega (arith, c.if-len-gt1.false, c.len.ensures, c.args.children.now.ok.0))
