use Rattle.drf_text.proofs.DecimalLaws.{decimals_none, decimals_one, decimals_two, decimals_three}
use Rattle.drf_lines.proofs.Appends.{nothing, and_then}
use Rattle.drf_lines.proofs.amounts.put_decimals.Goals as goal

pub returns-then-thousandths-eq0 : goal.returns-then-thousandths-eq0
returns-then-thousandths-eq0 c = rw (decimals_none c.args.thousandths c.if-thousandths-eq0.true) nothing

pub returns-then-thousandths-eq0-2 : goal.returns-then-thousandths-eq0-2
returns-then-thousandths-eq0-2 c =
    rw (decimals_one c.args.thousandths c.if-thousandths-eq0.false c.if-thousandths-eq0-2.true) (and_then c.in_ok-put_byte.ensures c.in_ok-put_digit.ensures)

pub returns-then-thousandths-eq0-3 : goal.returns-then-thousandths-eq0-3
returns-then-thousandths-eq0-3 c =
    rw (decimals_two c.args.thousandths c.if-thousandths-eq0-2.false c.if-thousandths-eq0-3.true)
    (and_then c.in_ok-put_byte.ensures (and_then c.in_ok-put_digit.ensures c.in_ok-put_digit-2.ensures))

pub returns : goal.returns
returns c =
    rw (decimals_three c.args.thousandths c.if-thousandths-eq0-3.false)
    (and_then c.in_ok-put_byte.ensures (and_then c.in_ok-put_digit.ensures (and_then c.in_ok-put_digit-2.ensures c.put_digit-3.ensures)))
