use Rattle.drf_ask.proofs.Numbers.{number_begins, number_ends}
use Rattle.drf_ask.proofs.question.number_of.Goals as goal

pub loop-digit-init : goal.loop-digit-init
loop-digit-init c = number_begins c.args.digits.now

pub returns : goal.returns
returns c = number_ends c.args.digits.now c.loop-digit.digit-index c.loop-digit.number c.loop-digit-test.false c.loop-digit.invariant
