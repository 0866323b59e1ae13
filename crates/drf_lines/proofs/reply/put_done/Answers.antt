use Rattle.json.specs.Print.{escape_byte}
use Rattle.drf_lines.proofs.reply.put_done.Goals as goal

pub returns : goal.returns
unfolding escape_byte
returns c = c.put.ensures
