use Rattle.std.proofs.Common.{List, ap, ◌∙◌, arith}
use Rattle.drf_bundle.specs.Quantities.{amount_of}
use Rattle.drf_bundle.specs.declared.quantities.Entry.{Entry}
use Rattle.drf_show.specs.Had.{Part, sum_with}
use Rattle.drf_show.proofs.Sums.{left_there, next_sum, sum_with-le}
use Rattle.drf_show.proofs.had.sum_of.Goals as goal

pub loop-part-preserved : goal.loop-part-preserved
loop-part-preserved c =
    let role = c.args.role.now in
    let parts = c.args.parts.now in
    let i = c.loop-part.part-index in
    let part = c.part-item.result in
    let now : Part = (part.0.now, part.1.now) in
    record {
      sum = next_sum role parts i part c.loop-part-test.true c.part-item.is c.in_ok-sum.sum (c.in_ok-sum.ensures.sum ∙ ap (λ (s : List Entry). sum_with role s now) c.loop-part.invariant.sum);
      room = λ label. omega (
        arith,
        c.loop-part.invariant.room label,
        left_there role parts i part c.loop-part-test.true c.part-item.is label,
        ap (λ (es : List Entry). amount_of es label) c.in_ok-sum.ensures.sum,
        sum_with-le role c.loop-part.sum now label c.in_ok-sum.ensures.in_order,
      );
    }

pub with_part-requires : goal.with_part-requires
with_part-requires c = λ label. omega (
  arith,
  c.requires label,
  c.loop-part.invariant.room label,
  left_there c.args.role.now c.args.parts.now c.loop-part.part-index c.part-item.result c.loop-part-test.true c.part-item.is label,
)
