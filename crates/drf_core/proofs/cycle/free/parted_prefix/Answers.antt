use Rattle.std.proofs.Common.{◌+◌, sym, ◌∙◌, arith}
use Rattle.std.proofs.lemmas.Bool.{not-false, not-true}
use Rattle.drf_role.specs.Text.{same_text}
use Rattle.drf_core.proofs.drafting.Near.{above_role, alike_more, as_long, not_above, parted_end, parted_here}
use Rattle.drf_core.proofs.cycle.free.parted_prefix.Goals.{then-i-len-via-then-i-len, then-i-len-via-else-i-len+then-ne}
use Rattle.drf_core.proofs.cycle.free.parted_prefix.Goals as goal

pub returns-then-i-len-clause-within : goal.returns-then-i-len-clause-within
returns-then-i-len-clause-within c =
    omega (arith, as_long c.loop-i.i c.args.outer.now c.args.role.now (omega (arith, c.len-i-end.ensures.len)) c.loop-i.invariant)

pub returns-then-i-len-clause-parted : goal.returns-then-i-len-clause-parted
returns-then-i-len-clause-parted c = elim c.then-i-len.branch [
  | then-i-len-via-then-i-len w ↦
      parted_end c.loop-i.i c.args.outer.now c.args.role.now (omega (arith, c.len-i-end.ensures.len)) (omega (arith, c.len.ensures.len, w.if-i-len.true))
  | then-i-len-via-else-i-len+then-ne w ↦
      parted_here c.loop-i.i c.args.outer.now c.args.role.now w.part.result.now w.part-else-i-len.result.now w.part.ensures w.part-else-i-len.ensures
      (not-true (same_text w.part.result.now w.part-else-i-len.result.now) (sym w.ne.ensures ∙ w.if-ne.true))
]

pub returns-then-i-len-clause-some : goal.returns-then-i-len-clause-some
returns-then-i-len-clause-some c =
    not_above (c.loop-i.i + 1) c.args.outer.now c.args.role.now (omega (arith, c.len-i-end.ensures.len, c.loop-i-test.true)) (returns-then-i-len-clause-parted c)

pub loop-i-preserved : goal.loop-i-preserved
loop-i-preserved c =
    alike_more c.loop-i.i c.args.outer.now c.args.role.now c.part.result.now c.part-else-i-len.result.now c.part.ensures c.part-else-i-len.ensures
    (not-false (same_text c.part.result.now c.part-else-i-len.result.now) (sym c.ne.ensures ∙ c.if-ne.false)) c.loop-i.invariant

pub returns-clause-none : goal.returns-clause-none
returns-clause-none c = λ _.
    above_role c.loop-i.i c.args.outer.now c.args.role.now (omega (arith, c.len-i-end.ensures.len, c.loop-i-test.false)) (omega (arith, c.len-i-end.ensures.len)) c.loop-i.invariant
