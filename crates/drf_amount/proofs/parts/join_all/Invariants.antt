use Rattle.std.proofs.Common.{◌≡◌, take, Some, All}
use Rattle.drf_amount.specs.Pool.{joined_all}
use Rattle.drf_amount.proofs.parts.join_all.Given as goal

-- the join of the amounts so far
abbrev pub invariant-loop-amount : goal.invariant-loop-amount
invariant-loop-amount g l = record {
  given : All g.A.Algebra.is_given (take l.amount-index l.amounts);
  joined : joined_all g.A.Algebra.join g.A.Algebra.empty (take l.amount-index l.amounts) ≡ Some l.whole;
}
