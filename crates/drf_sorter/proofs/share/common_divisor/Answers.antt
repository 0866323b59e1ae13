use Rattle.std.proofs.Common.{◌%◌, subst, sym}
use Rattle.std.specs.Int.{IsGcd}
use Rattle.std.proofs.lemmas.Nat.Gcd.{IsGcd-from_mod, IsGcd-from_zero}
use Rattle.drf_sorter.proofs.share.common_divisor.Goals as goal

pub loop-next-preserved : goal.loop-next-preserved
loop-next-preserved c g h = c.loop-next.invariant g (IsGcd-from_mod _ _ g h)

pub returns-then-next-eq0 : goal.returns-then-next-eq0
returns-then-next-eq0 c = c.loop-next.invariant _ (IsGcd-from_zero _ _ c.if-next-eq0.true)

pub returns : goal.returns
returns c =
    let short : IsGcd c.loop-next.next (c.loop-next.divisor % c.loop-next.next) c.short_divisor.result = c.short_divisor.ensures in
    subst (IsGcd c.args.part c.args.whole) (sym c.from-2.ensures)
    (c.loop-next.invariant _ (IsGcd-from_mod c.loop-next.divisor c.loop-next.next _ short))
