use Rattle.drf_lines.proofs.LineNumbers.{whole_known}
use Rattle.drf_lines.proofs.number.whole_number.Goals as goal

pub returns-in-Some : goal.returns-in-Some
returns-in-Some c = whole_known c.args.text.now _ c.in-Some.ensures
