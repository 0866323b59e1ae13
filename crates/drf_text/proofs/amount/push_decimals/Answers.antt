use Rattle.std.proofs.Common.{arith, append-nil}
use Rattle.std.proofs.lemmas.Grind.{common_steps}
use Rattle.drf_text.proofs.DecimalLaws.{decimals_none, decimals_one, decimals_two, decimals_three}
use Rattle.drf_text.proofs.amount.push_decimals.Goals as goal

pub returns-then-thousandths-eq0 : goal.returns-then-thousandths-eq0
returns-then-thousandths-eq0 c = rw (decimals_none c.args.thousandths c.if-thousandths-eq0.true, append-nil)

pub returns-then-thousandths-eq0-2 : goal.returns-then-thousandths-eq0-2
returns-then-thousandths-eq0-2 c =
    rw (decimals_one c.args.thousandths c.if-thousandths-eq0.false c.if-thousandths-eq0-2.true) (grind (arith, common_steps))

pub returns-then-thousandths-eq0-3 : goal.returns-then-thousandths-eq0-3
returns-then-thousandths-eq0-3 c =
    rw (decimals_two c.args.thousandths c.if-thousandths-eq0-2.false c.if-thousandths-eq0-3.true) (grind (arith, common_steps))

pub returns : goal.returns
returns c =
    rw (decimals_three c.args.thousandths c.if-thousandths-eq0-3.false) (grind (arith, common_steps))
