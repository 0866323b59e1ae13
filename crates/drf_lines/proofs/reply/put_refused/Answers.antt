use Rattle.json.specs.Print.{escape_byte}
use Rattle.drf_lines.proofs.Appends.{and_then}
use Rattle.drf_lines.proofs.reply.put_refused.Goals as goal

pub returns : goal.returns
unfolding escape_byte
returns c = and_then c.in_ok-put_text.ensures (and_then c.in_ok-put_number.ensures.appends c.put_byte.ensures)
