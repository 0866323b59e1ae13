use Rattle.std.proofs.Common.{sym, ap, is_some}
use Rattle.drf_lines.proofs.number.is_number_in_range.Goals as goal

pub returns-in-Some : goal.returns-in-Some
returns-in-Some c = sym (ap is_some c.in-Some.ensures)
