use Rattle.drf_lines.specs.ReplyLine.{fault_line}
use Rattle.drf_lines.proofs.Appends.{and_then}
use Rattle.drf_lines.proofs.reply.push_fault.Goals as goal

pub returns : goal.returns
unfolding fault_line
returns c = rw (c.name.ensures, c.number.ensures) at (and_then c.in_ok-put_refused.ensures c.put_byte.ensures)
