use Rattle.std.proofs.Common.{◌≡◌, length, sym, arith, rules}
use Rattle.drf_sorter.proofs.PrefixLemmas.{begins_from, begins_short, begins_differ, heads_more}
use Rattle.drf_sorter.proofs.client.begins_with.Goals as goal

pub returns-then-len : goal.returns-then-len
returns-then-len c = sym (begins_short c.args.path.now c.args.node.now (omega arith))

pub returns-then-ne : goal.returns-then-ne
returns-then-ne c =
    sym
    (begins_differ c.args.path.now c.args.node.now c.loop-i.i c.part.result.now c.part-in-loop-i.result.now
    (omega arith) c.part.ensures c.part-in-loop-i.ensures (search rules))

pub loop-i-preserved : goal.loop-i-preserved
loop-i-preserved c =
    heads_more c.args.path.now c.args.node.now c.loop-i.i c.part.result.now c.part-in-loop-i.result.now (omega arith)
    (omega arith) c.part.ensures c.part-in-loop-i.ensures (search rules) c.loop-i.invariant

pub returns : goal.returns
returns c =
    let done : c.loop-i.i ≡ length c.args.node.now = omega arith in
    sym (begins_from c.args.path.now c.args.node.now (rw done at c.loop-i.invariant))
