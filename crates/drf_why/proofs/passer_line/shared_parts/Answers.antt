use Rattle.std.proofs.Common.{sym, ◌≡◌, ◌∙◌, arith}
use Rattle.drf_why.specs.Passers.{shared_parts}
use Rattle.drf_why.proofs.Passed.{one_other, one_shared, shared_over}
use Rattle.drf_why.proofs.passer_line.shared_parts.Goals as goal

pub loop-i-preserved : goal.loop-i-preserved
loop-i-preserved c =
    one_shared c.args.path.now c.args.other.now c.loop-i.i c.loop-i.invariant c.part.result.now c.part-in-loop-i.result.now
    c.part.ensures c.part-in-loop-i.ensures (sym c.ne.ensures ∙ c.if-ne.false)

pub returns-then-ne-clause-value : goal.returns-then-ne-clause-value
returns-then-ne-clause-value c =
    one_other c.args.path.now c.args.other.now c.loop-i.i c.loop-i.invariant c.part.result.now c.part-in-loop-i.result.now
    c.part.ensures c.part-in-loop-i.ensures (sym c.ne.ensures ∙ c.if-ne.true)

pub returns-clause-value : goal.returns-clause-value
returns-clause-value c =
    let over : shared_parts c.args.path.now c.args.other.now ≡ c.loop-i.i =
    shared_over c.args.path.now c.args.other.now c.loop-i.i c.loop-i.invariant (omega arith) in
    omega (arith, over)
