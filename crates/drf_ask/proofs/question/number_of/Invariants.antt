use Rattle.std.proofs.Common.{drop}
use Rattle.drf_ask.proofs.Numbers.{IsNumberTo}
use Rattle.drf_ask.proofs.question.number_of.Given as goal

abbrev pub invariant-loop-digit : goal.invariant-loop-digit
invariant-loop-digit l = IsNumberTo l.digits (drop l.digit-index l.digits) l.number
