use Rattle.drf_lines.proofs.LineNumbers.{whole_read}
use Rattle.drf_lines.proofs.number.whole_above.Goals as goal

pub returns : goal.returns
returns c = whole_read c.args.numeral.now c.to_u64.result c.to_u64.ensures
