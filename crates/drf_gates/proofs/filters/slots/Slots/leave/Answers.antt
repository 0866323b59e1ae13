use Rattle.std.proofs.Common.{arith}
use Rattle.drf_gates.proofs.filters.Held.{marks-slots, slots-marked, slots-tidy}
use Rattle.drf_gates.proofs.filters.slots.Slots.leave.Goals as goal

pub take_out-requires-clause-slots : goal.take_out-requires-clause-slots
take_out-requires-clause-slots c = marks-slots c.args.self.now c.requires.marked (c.requires.tidy (omega (arith, c.if-few-eq0.false)))

pub returns-clause-marked : goal.returns-clause-marked
returns-clause-marked c = slots-marked c.take_out.new.self c.take_out.ensures.slots

pub returns-clause-tidy : goal.returns-clause-tidy
returns-clause-tidy c = λ some. slots-tidy c.take_out.new.self c.take_out.ensures.slots
