use Rattle.drf_lines.proofs.Appends.{and_then}
use Rattle.drf_lines.proofs.member.put_text.Goals as goal

pub returns : goal.returns
returns c = and_then c.in_ok-put.ensures c.put_string.ensures
