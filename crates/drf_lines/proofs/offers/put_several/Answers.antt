use Rattle.json.specs.Print.{escape_byte}
use Rattle.drf_lines.proofs.Appends.{and_then}
use Rattle.drf_lines.proofs.offers.put_several.Goals as goal

pub returns-clause-appends : goal.returns-clause-appends
unfolding escape_byte
returns-clause-appends c = and_then c.in_ok-put.ensures (and_then c.in_ok-put_task_list.ensures.appends c.put_byte.ensures)
