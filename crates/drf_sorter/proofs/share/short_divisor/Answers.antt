use Rattle.std.proofs.Common.{arith}
use Rattle.std.proofs.lemmas.Nat.Gcd.{IsGcd-from_zero, IsGcd-from_mod}
use Rattle.drf_sorter.proofs.share.short_divisor.Goals as goal

pub loop-next-preserved : goal.loop-next-preserved
loop-next-preserved c g h = c.loop-next.invariant g (IsGcd-from_mod _ _ g h)

pub returns : goal.returns
returns c = c.loop-next.invariant _ (IsGcd-from_zero _ _ (omega arith))
