use Rattle.std.proofs.Common.{sym, ◌∙◌, arith}
use Rattle.drf_gates.proofs.quota.Resources.{set_more, unreserved-none}
use Rattle.drf_gates.proofs.quota.consumed.add_unreserved.Goals as goal

pub returns-then-not-is_unreserved : goal.returns-then-not-is_unreserved
returns-then-not-is_unreserved c = λ label.
    omega (
      arith,
      unreserved-none c.args.resource.now label c.requires.right (sym c.is_unreserved.ensures ∙ c.if-not-is_unreserved.true),
    )

pub returns : goal.returns
returns c =
    set_more c.set.result c.args.sum.now c.set.new.self c.args.resource.now c.in_ok-copy.field-0 _ c.set.ensures.ok c.in_ok-copy.ensures
    (omega (
      arith,
      c.amount_of.ensures,
      c.thousandths.ensures,
    ))
    (sym c.is_unreserved.ensures ∙ c.if-not-is_unreserved.false)
